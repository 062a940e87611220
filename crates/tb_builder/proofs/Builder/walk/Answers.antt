use Rattle.std.proofs.Common.{◌≡◌, refl, sym, subst, ◌∙◌, ap, ℕ, ◌+◌, ◌-◌, ◌≤◌, length, drop, slice_get, ◌∷◌, arith}
use Rattle.tb_pool.specs.Lists.{list_at}
use Rattle.tb_builder.specs.Ownership.{Ids, ids_of}
use Rattle.tb_builder.specs.PageWalks.{moved, LeadsOn}
use Rattle.tb_builder.proofs.Events.WalkLemmas.{leads_here, leads_after, moved_none, left_rest}
use Rattle.tb_builder.proofs.Builder.walk.Goals.{In-Some-behind}
use Rattle.tb_builder.proofs.Builder.walk.Goals as goal

none_yet : (n : ℕ) → 0 ≡ n - n
none_yet n = omega arith

one_more : (all left : ℕ) → left ≤ all → 1 ≤ left → (all - left) + 1 ≡ all - (left - 1)
one_more all left h k = omega arith

pub returns-in_default-clause-leads : goal.returns-in_default-clause-leads
returns-in_default-clause-leads c =
    let b = c.args.self.now in
    let s = c.args.store.now in
    let ask = c.args.ask.now in
    subst (LeadsOn b s ask b) (moved_none (ids_of b) s c.requires.sound.own) (leads_here ask b s c.requires.sound c.requires.fits)

pub returns-in_default-next-clause-leads : goal.returns-in_default-next-clause-leads
returns-in_default-next-clause-leads c =
    let b = c.args.self.now in
    let s = c.args.store.now in
    let ask = c.args.ask.now in
    subst (LeadsOn b s ask b) (moved_none (ids_of b) s c.requires.sound.own) (leads_here ask b s c.requires.sound c.requires.fits)

pub loop-behind-init : goal.loop-behind-init
loop-behind-init c =
    let b = c.args.self.now in
    let s = c.args.store.now in
    let ask = c.args.ask.now in
    let all = c.len-all.result in
    let items = sym c.iter-nodes.ensures ∙ c.in-Some-next.ensures.steps in
    let left = ap (λ ns. c.in-Some-next.first.now ∷ ns) (sym c.into_iter-behind-iterator.ensures.into_iter_gives) in
    record {
      can_next = tt;
      is_finite = tt;
      within = omega arith;
      rest = ap (λ k. drop k (list_at s b.waiting)) (sym (none_yet all)) ∙ items ∙ left;
      few = omega (arith, c.len-all.ensures, ap length (items ∙ left));
      on = c.requires.on;
      opened = c.requires.opened;
      ids = refl;
      leads = subst (LeadsOn b s ask b) (moved_none (ids_of b) s c.requires.sound.own ∙ ap (moved (ids_of b) s) (none_yet all)) (leads_here ask b s c.requires.sound c.requires.fits);
    }

-- the nodes that are left
left : (c : In-Some-behind) → drop (c.len-all.result - c.loop-behind.left) (list_at c.args.store.now c.loop-behind.self.waiting) ≡ c.loop-behind.n.now ∷ c.in-Some-behind.behind.now ∷ c.next-in-loop-behind.new.self
left c = c.loop-behind.invariant.rest ∙ ap (λ ns. c.loop-behind.n.now ∷ ns) c.in-Some-behind.ensures.steps

pub passes-requires-clause-first : goal.passes-requires-clause-first
passes-requires-clause-first c =
    let is = left (goal.at.passes-requires-clause-first c).In-Some-behind in
    is ∙ ap (λ ms. c.loop-behind.n.now ∷ ms) (left_rest _ (c.len-all.result - c.loop-behind.left) _ _ is)

pub passes-requires-clause-behind : goal.passes-requires-clause-behind
passes-requires-clause-behind c =
    ap (λ ms. slice_get ms 0) (sym (left_rest _ (c.len-all.result - c.loop-behind.left) _ _ (left (goal.at.passes-requires-clause-behind c).In-Some-behind)))

pub loop-behind-preserved : goal.loop-behind-preserved
loop-behind-preserved c =
    let b = c.args.self.now in
    let s = c.args.store.now in
    let ask = c.args.ask.now in
    let w = c.loop-behind.self in
    let d = c.passes.new.self in
    let all = c.len-all.result in
    let k = all - c.loop-behind.left in
    let same = ap (λ (i : Ids). list_at s i.waiting) c.passes.ensures.ids in
    let shorter = ap length c.in-Some-behind.ensures.steps in
    let some : 1 ≤ c.loop-behind.left = omega (arith, c.loop-behind.invariant.few) in
    let more = one_more all c.loop-behind.left c.loop-behind.invariant.within some in
    let rest = ap (drop (k + 1)) same ∙ sym (left_rest (list_at s w.waiting) k _ _ (left (goal.at.loop-behind-preserved c).In-Some-behind)) in
    record {
      can_next = tt;
      is_finite = tt;
      within = omega (arith, c.loop-behind.invariant.within);
      rest = ap (λ m. drop m (list_at s d.waiting)) (sym more) ∙ rest;
      few = omega (arith, shorter, c.loop-behind.invariant.few);
      on = c.passes.ensures.on c.if-not-passes.false;
      opened = c.passes.ensures.opened;
      ids = c.passes.ensures.ids ∙ c.loop-behind.invariant.ids;
      leads = subst (λ m. LeadsOn b s ask d (moved (ids_of d) s m)) more (leads_after ask b w d s (moved (ids_of w) s k) (moved (ids_of d) s (k + 1)) c.loop-behind.invariant.leads
          (subst (λ i. LeadsOn w (moved (ids_of w) s k) ask d (moved i s (k + 1))) (sym c.passes.ensures.ids) (c.passes.ensures.goes c.if-not-passes.false)));
    }

pub returns-then-not-passes-clause-leads : goal.returns-then-not-passes-clause-leads
returns-then-not-passes-clause-leads c =
    let b = c.args.self.now in
    let s = c.args.store.now in
    let ask = c.args.ask.now in
    let w = c.loop-behind.self in
    let d = c.passes.new.self in
    let k = c.len-all.result - c.loop-behind.left in
    let here = moved (ids_of w) s k in
    subst (λ i. LeadsOn b s ask d (moved i s k)) c.loop-behind.invariant.ids (leads_after ask b w d s here here c.loop-behind.invariant.leads (c.passes.ensures.ends c.if-not-passes.true))
