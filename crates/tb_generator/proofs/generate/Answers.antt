use Rattle.std.proofs.Common.{◌≡◌, ◌∙◌, ◌+◌, ◌-◌, ap, ℕ, suc, List, [], ◌∷◌, ◌++◌, append_assoc, append-nil, sym, subst, arith}
use Rattle.tb_galley.specs.declared.Item.{Item}
use Rattle.tb_generator.specs.GeneratedGalleys.{next_seed, made_item, made_items}
use Rattle.tb_galley.specs.Valid.{IsValid}
use Rattle.tb_generator.proofs.ValidLemmas.{generated_valid}
use Rattle.tb_generator.proofs.generate.Goals as goal

-- one item more
made-more : (items now whole : List Item) (r m k s seed : ℕ) → r ≡ suc m → items ++ made_items r k s ≡ whole → now ≡ items ++ record { line = k; kind = made_item k seed } ∷ [] → seed ≡ next_seed s
    → now ++ made_items m (k + 1) seed ≡ whole
made-more items now whole r m k s seed more before pushed next =
    (λ j. pushed j ++ made_items m (k + 1) seed)
    ∙ append_assoc items (record { line = k; kind = made_item k seed } ∷ []) (made_items m (k + 1) seed)
    ∙ (λ j. items ++ record { line = k; kind = made_item k (next j) } ∷ made_items m (k + 1) (next j))
    ∙ (rw more at before)

pub loop-k-preserved : goal.loop-k-preserved
loop-k-preserved c =
    let left : c.args.n + 1 - c.loop-k.k ≡ suc (c.args.n + 1 - (c.loop-k.k + 1)) = omega arith in
    record {
      small = c.next_seed-seed.ensures.small;
      named = c.push_made.ensures.last;
      made = made-more c.loop-k.items c.push_made.new.items _ _ _ c.loop-k.k c.loop-k.seed c.next_seed-seed.result left c.loop-k.invariant.made c.in_ok-push_made.ensures.pushed c.next_seed-seed.ensures.next;
    }

pub returns-clause-valid : goal.returns-clause-valid
returns-clause-valid c =
    let none : 0 ≡ c.args.n + 1 - c.loop-k.k = omega arith in
    let all : c.loop-k.items ≡ made_items c.args.n 1 c.args.n = sym (append-nil c.loop-k.items) ∙ ap (λ m. c.loop-k.items ++ made_items m c.loop-k.k c.loop-k.seed) none ∙ c.loop-k.invariant.made in
    subst IsValid (λ i. record { params = sym c.made_params.ensures i; version = 1; classes = sym c.new.ensures i; items = sym all i; end_line = c.args.n + 1 }) (generated_valid c.args.n c.requires.few)
