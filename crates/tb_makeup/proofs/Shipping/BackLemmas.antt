-- What goes back before what waits, and the lists of its insertions: it has none.
use Rattle.std.proofs.Common.{◌≡◌, ◌≢◌, refl, sym, subst, ◌∙◌, ℕ, Bool, true, false, List, [], ◌∷◌, ◌++◌, map, None, negsuc}
use Rattle.std.specs.Prelude.{◌&&◌, int_le, option_to_list, if◌then◌else◌}
use Rattle.std.specs.FinMap.{get, remove}
use Rattle.std.proofs.lemmas.Bool.{true≢false}
use Rattle.tb_pool.specs.Lists.{Lists, list_at}
use Rattle.tb_node.specs.declared.Kind.{Kind}
use Rattle.tb_node.specs.declared.Kind.TheVariants as kinds
use Rattle.tb_node.specs.declared.Node.{Node}
use Rattle.tb_node.specs.PlainNodes.{PlainNode, plain_of, plain_kind, is_insertion_kind}
use Rattle.tb_param.specs.declared.Params.{Params}
use Rattle.tb_builder.specs.declared.Builder.{Builder}
use Rattle.tb_builder.specs.FiredPages.{Fired}
use Rattle.tb_builder.specs.Contents.{contents_of}
use Rattle.tb_builder.specs.Ownership.{Lacks, inner_of, inner_ids, ids_of, owned}
use Rattle.tb_builder.specs.Courses.{IsSound}
use Rattle.tb_builder.specs.Contributions.{ListJoins}
use Rattle.tb_builder.proofs.Ownership.FrameLemmas.{frame_owned, frame_contents, frame_sound}
use Rattle.tb_builder.proofs.Ownership.OwnedLemmas.{AllSame}
use Rattle.tb_items.proofs.ClosedLists.{closed-other, all-other}
use Rattle.tb_plain.specs.Firing.{holds_any, page_for_held, put_back_after}

-- ---- no insertions

kind-inner : (held : ℕ → List Node) (k : Kind) → is_insertion_kind (plain_kind held k) ≡ false → inner_of k ≡ None
kind-inner held (kinds.Ins i) e = absurd (true≢false e)
kind-inner held k e = refl

-- no insertion stands among these nodes
abbrev AreNoInsertions : List PlainNode → Type 0
AreNoInsertions [] = Unit {0}
AreNoInsertions (n ∷ ns) = (is_insertion_kind n.kind ≡ false) × AreNoInsertions ns

list-inner : (held : ℕ → List Node) (ns : List Node) → AreNoInsertions (map (plain_of held) ns) → inner_ids ns ≡ []
list-inner held [] h = refl
list-inner held (n ∷ ns) h = λ i. option_to_list (kind-inner held n.kind h.0 i) ++ list-inner held ns h.1 i

back-free : (p : Params) (f : Fired) → AreNoInsertions (put_back_after p f)
back-free p f = by_test (int_le f.penalty (negsuc 19999) && holds_any f.held)
  where
    by_test : (t : Bool) → AreNoInsertions (if t then page_for_held p else [])
    by_test true = (refl, (refl, (refl, (refl, (refl, tt)))))
    by_test false = tt

-- what the page makeup puts back
pub back-inner : (p : Params) (f : Fired) (held : ℕ → List Node) (ns : List Node) → map (plain_of held) ns ≡ put_back_after p f → inner_ids ns ≡ []
back-inner p f held ns e = list-inner held ns (subst AreNoInsertions (sym e) (back-free p f))

-- ---- the list is closed

module _ (s t u : Lists Node) (b d : Builder) (l : ℕ) (joins : ListJoins (ids_of b) s l) (sound : IsSound d t) (others : (q : ℕ) → q ≢ l → Lacks q (owned (ids_of b) s) → get t.lists q ≡ get s.lists q)
    (keeps : (q : ℕ) → Lacks q (owned (ids_of b) s ++ inner_ids (list_at s l)) → Lacks q (owned (ids_of d) t)) (closed : u.lists ≡ remove t.lists l) where
  same-kept : AllSame t u (owned (ids_of d) t)
  same-kept = all-other t u l closed (owned (ids_of d) t) (keeps l joins.apart)

  pub back-sound : IsSound d u
  back-sound = frame_sound d t u sound same-kept

  pub back-contents : contents_of d u ≡ contents_of d t
  back-contents = frame_contents d t u sound same-kept

  pub back-others : (q : ℕ) → q ≢ l → Lacks q (owned (ids_of b) s) → get u.lists q ≡ get s.lists q
  back-others q ne lacks = closed-other t u l closed q ne ∙ others q ne lacks

  pub back-keeps : (q : ℕ) → Lacks q (owned (ids_of b) s ++ inner_ids (list_at s l)) → Lacks q (owned (ids_of d) u)
  back-keeps q lacks = subst (Lacks q) (sym (frame_owned d t u sound same-kept)) (keeps q lacks)
