-- Lists that are not the builder's change, and nodes that are neither insertions nor acts.
use Rattle.std.proofs.Common.{◌≡◌, ◌≢◌, sym, ℕ, true, List, [], ◌∷◌}
use Rattle.std.specs.FinMap.{get}
use Rattle.std.proofs.lemmas.Bool.{true≢false}
use Rattle.tb_pool.specs.Lists.{Lists}
use Rattle.tb_node.specs.declared.Node.{Node}
use Rattle.tb_node.specs.declared.Kind.{Kind}
use Rattle.tb_node.specs.declared.Kind.TheVariants as kinds
use Rattle.tb_builder.specs.Ownership.{Lacks, is_plain, AllPlain}
use Rattle.tb_builder.proofs.Ownership.OwnedLemmas.{AllSame}
use Rattle.tb_column.specs.Page.{is_leaf_kind, AreLeaves}

-- two lists that are none of these changed
pub same-two : (s t : Lists Node) (l m : ℕ) → ((q : ℕ) → q ≢ l → q ≢ m → get t.lists q ≡ get s.lists q) → (xs : List ℕ) → Lacks l xs → Lacks m xs → AllSame s t xs
same-two s t l m h [] a b = tt
same-two s t l m h (x ∷ xs) a b = (h x (λ e. a.0 (sym e)) (λ e. b.0 (sym e)), same-two s t l m h xs a.1 b.1)

pub same-one : (s t : Lists Node) (l : ℕ) → ((q : ℕ) → q ≢ l → get t.lists q ≡ get s.lists q) → (xs : List ℕ) → Lacks l xs → AllSame s t xs
same-one s t l h xs a = same-two s t l l (λ q n m. h q n) xs a a

-- ---- nodes that are neither insertions nor acts

plain-leaf : (k : Kind) → is_plain k ≡ true → is_leaf_kind k
plain-leaf (kinds.Ins i) p = absurd (true≢false (sym p))
plain-leaf (kinds.Act a) p = absurd (true≢false (sym p))
plain-leaf k p = tt

pub plain-leaves : (ns : List Node) → AllPlain ns → AreLeaves ns
plain-leaves [] h = tt
plain-leaves (n ∷ ns) h = (plain-leaf n.kind h.0, plain-leaves ns h.1)
