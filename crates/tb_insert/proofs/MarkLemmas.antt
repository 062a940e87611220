-- The mark of an account: without an insertion it is there already.
use Rattle.std.proofs.Common.{◌≡◌, refl, sym, subst, ◌∙◌, ap, ℕ, true, List, Option, None, Some, arith}
use Rattle.std.specs.Prelude.{nat_le, if◌then◌else◌}
use Rattle.std.proofs.lemmas.Bool.{true≢false}
use Rattle.std.proofs.lemmas.Bool.Decides.{nat_tests}
use Rattle.tb_node.specs.PlainNodes.{PlainNode}
use Rattle.tb_insert.specs.declared.Entry.{Entry}
use Rattle.tb_insert.specs.declared.Account.{Account}
use Rattle.tb_insert.specs.Account.{Frozen, Labelled, labelled}
use Rattle.tb_insert.specs.AccountEntries.{entry_of, EntryStands, IsAccountOf, IsUpTo, IsCutUpTo, last_at, cut_up_to, reaches}

last_newest : (newest last earlier : Option ℕ) → IsUpTo newest last → last_at newest last earlier ≡ last
last_newest newest None earlier h = refl
last_newest newest (Some i) earlier h = ap (λ t. if t then Some i else earlier) h

cut_newest : (newest : Option ℕ) (cut : Option (ℕ × ℕ)) → IsCutUpTo newest cut → cut_up_to newest cut ≡ cut
cut_newest newest None h = refl
cut_newest newest (Some c) h = ap (λ t. if t then Some c else None) h

marked_entry : (e : Entry) (z : Frozen) (newest mark : Option ℕ) (ls ms : List Labelled) (k : ℕ) → EntryStands e z newest mark ls ms k → EntryStands e z newest newest ls ls k
marked_entry e z newest mark ls ms k h = record {
  met = h.met;
  split = h.split;
  height = h.height;
  last = h.last;
  last_before = h.last_before;
  last_marked = last_newest newest e.last e.marked h.last_before ∙ h.last;
  cut = h.cut;
  cut_before = h.cut_before;
  cut_marked = cut_newest newest e.cut h.cut_before ∙ h.cut;
}

marked_here : (a : Account) (z : Frozen) (page marked : List PlainNode) → IsAccountOf a z page marked → (let b : Account = record a { mark = a.newest } in IsAccountOf b z page page)
marked_here a z page marked h = record {
  differ = h.differ;
  goal = h.goal;
  penalties = h.penalties;
  entries = λ k lt. marked_entry (entry_of a k) z a.newest a.mark (labelled z page) (labelled z marked) k (h.entries k lt);
  newest = h.newest;
  mark = λ i r. r;
  newest_is = h.newest_is;
  mark_is = h.newest_is;
}

reached : (i : ℕ) → nat_le i i ≡ true
reached i = grind (arith, nat_tests)

-- nothing is marked while there is no insertion
no_mark : (a : Account) (z : Frozen) (page marked : List PlainNode) → IsAccountOf a z page marked → a.newest ≡ None → a.mark ≡ None
no_mark a z page marked h e = by_mark a.mark refl
  where
    by_mark : (o : Option ℕ) → a.mark ≡ o → a.mark ≡ None
    by_mark None m = m
    by_mark (Some i) m = absurd (true≢false (sym (h.mark i (ap (λ o. reaches o i) m ∙ reached i)) ∙ ap (λ o. reaches o i) e))

-- a page without insertions has its mark already
pub marked_already : (a : Account) (z : Frozen) (page marked : List PlainNode) → IsAccountOf a z page marked → a.newest ≡ None → IsAccountOf a z page page
marked_already a z page marked h e =
    subst (λ o. (let b : Account = record a { mark = o } in IsAccountOf b z page page)) (e ∙ sym (no_mark a z page marked h e)) (marked_here a z page marked h)
