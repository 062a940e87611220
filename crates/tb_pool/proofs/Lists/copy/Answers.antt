use Rattle.std.proofs.Common.{ap, ◌∙◌, get_or, None, arith}
use Rattle.tb_pool.proofs.PlaceLemmas.{same_slots}
use Rattle.tb_pool.proofs.CopyLemmas.{slab_same, same_ends, lists_same}
use Rattle.tb_pool.proofs.Lists.copy.Goals as goal

pub invariant_of-result : goal.invariant_of-result
invariant_of-result g c =
    let i = c.self.inside in
    let nodes = slab_same _ (λ x y h. λ j. record { value = c.requires.equal x.value y.value h.0 j; prev = h.1.0 j; next = h.1.1 j }) i.nodes c.in_ok-nodes.nodes c.in_ok-nodes.ensures.cases in
    let heads = slab_same _ (λ x y h. h) i.heads c.in_ok-heads.heads c.in_ok-heads.ensures.cases in
    let kept = ap (λ t. t.slots) c.reserve.ensures.rest_kept in
    same_slots i.nodes c.in_ok-heads.heads i.spare i.places c.self.invariant.0 (same_ends i.nodes i.heads c.in_ok-heads.heads i.spare i.places c.self.invariant.0 c.self.invariant.1 heads)
    c.reserve.new.self i.spare i.places (kept ∙ nodes) c.in_ok-reserve.ensures.room (omega arith)

pub returns : goal.returns
returns g c =
    let i = c.self.inside in
    let nodes = slab_same _ (λ x y h. λ j. record { value = c.requires.equal x.value y.value h.0 j; prev = h.1.0 j; next = h.1.1 j }) i.nodes c.in_ok-nodes.nodes c.in_ok-nodes.ensures.cases in
    let heads = slab_same _ (λ x y h. h) i.heads c.in_ok-heads.heads c.in_ok-heads.ensures.cases in
    let kept = ap (λ t. t.slots) c.reserve.ensures.rest_kept in
    let lists = lists_same i.nodes c.reserve.new.self (λ k. ap (λ slots. get_or slots k None) (kept ∙ nodes)) i.heads c.in_ok-heads.heads heads in
    record { same = ap (λ l. record { lists = l; spare = i.spare }) lists ∙ c.self.view_is }
