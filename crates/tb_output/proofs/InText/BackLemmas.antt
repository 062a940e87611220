-- The page so far goes back with its insertions.
use Rattle.std.proofs.Common.{◌≡◌, ◌≢◌, refl, sym, subst, ◌∙◌, ap, ℕ, true, List, [], ◌∷◌, ◌++◌, map, take, append_assoc, Option, None, Some, IsSome, is_some, unwrap_or}
use Rattle.std.specs.Prelude.{All}
use Rattle.std.specs.FinMap.{get, insert, remove}
use Rattle.std.specs.List.{AllByRecursion}
use Rattle.std.proofs.lemmas.List.{map-append}
use Rattle.std.proofs.lemmas.List.Elements.{All-nil, All-cons}
use Rattle.tb_insert.proofs.AccountLemmas.{leaf_shapes}
use Rattle.tb_pool.specs.Lists.{Lists, IsLive, list_at, with_list}
use Rattle.tb_pool.specs.Frame.{IsNoneOf}
use Rattle.tb_pool.proofs.CallerLemmas.{list_same, list_other, get_other}
use Rattle.tb_pool.proofs.MapLemmas.{get-insert_same, get-insert_other, get-remove_other}
use Rattle.tb_node.specs.declared.Node.{Node}
use Rattle.tb_node.specs.PlainNodes.{ins, plain_of, leaf_of, leaf_shape, shape_of}
use Rattle.tb_node.specs.Fit.{IsSizedNode}
use Rattle.tb_node.specs.Sums.{size_of}
use Rattle.tb_param.specs.declared.Params.{Params}
use Rattle.tb_insert.specs.declared.Class.{Class}
use Rattle.tb_builder.specs.Ownership.{inner_ids, has_class, AllKnown}
use Rattle.tb_column.specs.declared.NoteBox.{NoteBox}
use Rattle.tb_column.specs.Notes.{notes_shown, note_lists}
use Rattle.tb_column.proofs.StoreLemmas.{list-get}
use Rattle.tb_output.specs.Text.{notes_nodes}
use Rattle.tb_output.specs.BackList.{insertion_of, insertions_again}
use Rattle.tb_output.specs.MachineFrame.{HasGrown}
use Rattle.tb_output.proofs.InText.PushLemmas.{grown-none}
use Rattle.tb_sheet.proofs.StandLemmas.{Stands}

-- ---- the calls of the store

-- all of a list was put after another
module _ (a b : Lists Node) (l q : ℕ) (apart : l ≢ q) (e : b.lists ≡ insert (with_list a l (list_at a l ++ list_at a q)) q []) where
  append-first : get b.lists l ≡ Some (list_at a l ++ list_at a q)
  append-first = ap (λ m. get m l) e ∙ get-insert_other (with_list a l (list_at a l ++ list_at a q)) q [] l apart ∙ get-insert_same a.lists l (list_at a l ++ list_at a q)

  append-second : get b.lists q ≡ Some []
  append-second = ap (λ m. get m q) e ∙ get-insert_same (with_list a l (list_at a l ++ list_at a q)) q []

  append-other : (k : ℕ) → k ≢ l → k ≢ q → get b.lists k ≡ get a.lists k
  append-other k first second = ap (λ m. get m k) e ∙ get-insert_other (with_list a l (list_at a l ++ list_at a q)) q [] k second ∙ get-insert_other a.lists l (list_at a l ++ list_at a q) k first

  pub first-live : IsLive b l
  first-live = ap (λ (o : Option (List Node)). is_some o) append-first

  pub second-live : IsLive b q
  second-live = ap (λ (o : Option (List Node)). is_some o) append-second

  pub second-empty : list_at b q ≡ []
  second-empty = ap (λ (o : Option (List Node)). unwrap_or o []) append-second

  pub other-live : (k : ℕ) → k ≢ l → k ≢ q → IsLive a k → IsLive b k
  other-live k first second live = ap (λ (o : Option (List Node)). is_some o) (append-other k first second) ∙ live

  append-list : list_at b l ≡ list_at a l ++ list_at a q
  append-list = ap (λ (o : Option (List Node)). unwrap_or o []) append-first

-- a list was cut, two lists were joined to a third, the one empty and the other closed
pub text-joined : (a b c d e : Lists Node) (back held body : ℕ) (xs : List Node) → held ≢ body → back ≢ held → back ≢ body → b.lists ≡ with_list a body xs
    → c.lists ≡ insert (with_list b back (list_at b back ++ list_at b held)) held [] → d.lists ≡ insert (with_list c back (list_at c back ++ list_at c body)) body [] → e.lists ≡ remove d.lists body
    → (get e.lists back ≡ Some (list_at a back ++ (list_at a held ++ xs))) × (get e.lists held ≡ Some []) × ((q : ℕ) → q ≢ back → q ≢ held → q ≢ body → get e.lists q ≡ get a.lists q)
text-joined a b c d e back held body xs held_body back_held back_body one two three four =
    let b_back : list_at b back ≡ list_at a back = list_other a b body xs back back_body one in
    let b_held : list_at b held ≡ list_at a held = list_other a b body xs held held_body one in
    let b_body : list_at b body ≡ xs = list_same a b body xs one in
    let c_back : list_at c back ≡ list_at b back ++ list_at b held = append-list b c back held back_held two in
    let c_body : list_at c body ≡ list_at b body = list-get b c body (append-other b c back held back_held two body (λ s. back_body (sym s)) (λ s. held_body (sym s))) in (
      ap (λ m. get m back) four
          ∙ get-remove_other d.lists body back back_body
          ∙ append-first c d back body back_body three
          ∙ (λ i. Some (c_back i ++ c_body i))
          ∙ (λ i. Some ((b_back i ++ b_held i) ++ b_body i))
          ∙ ap (λ ys. Some ys) (append_assoc (list_at a back) (list_at a held) xs),
      ap (λ m. get m held) four
          ∙ get-remove_other d.lists body held held_body
          ∙ append-other c d back body back_body three held (λ s. back_held (sym s)) held_body
          ∙ append-second b c back held back_held two,
      λ q no_back no_held no_body.
          ap (λ m. get m q) four
          ∙ get-remove_other d.lists body q no_body
          ∙ append-other c d back body back_body three q no_back no_body
          ∙ append-other b c back held back_held two q no_back no_held
          ∙ get_other a b body xs q no_body one,
    )

-- ---- the insertions

pub live-some : (o : Option (List Node)) → IsSome o → o ≡ Some (unwrap_or o [])
live-some None h = absurd cc
live-some (Some xs) h = refl

take-zero : (ns : List NoteBox) → take 0 ns ≡ []
take-zero [] = refl
take-zero (n ∷ ns) = refl

module _ (p : Params) (store : Lists Node) where
  -- their lists are those of the boxes
  pub again-inner : (ns : List NoteBox) → inner_ids (insertions_again p store ns) ≡ note_lists ns
  again-inner [] = refl
  again-inner (n ∷ ns) = ap (λ ls. n.list ∷ ls) (again-inner ns)

  pub again-known : (cs : List Class) (ns : List NoteBox) → AllByRecursion (λ (n : NoteBox). has_class cs n.class ≡ true) ns → AllKnown cs (insertions_again p store ns)
  again-known cs [] h = tt
  again-known cs (n ∷ ns) h = (h.0, again-known cs ns h.1)

  pub again-sized : (ns : List NoteBox) → All IsSizedNode (insertions_again p store ns)
  again-sized [] = All-nil IsSizedNode
  again-sized (n ∷ ns) = All-cons IsSizedNode _ (insertions_again p store ns) tt (again-sized ns)

  -- what they show in a store that still holds their lists
  pub again-shown : (new : Lists Node) (ns : List NoteBox) → AllByRecursion (Stands store new) (note_lists ns) → map (plain_of (list_at new)) (insertions_again p store ns) ≡ notes_nodes p (notes_shown store ns)
  again-shown new [] h = refl
  again-shown new (n ∷ ns) h =
      let same : list_at new n.list ≡ list_at store n.list = list-get store new n.list h.0 in
      let size : size_of (map shape_of (list_at store n.list)) ≡ size_of (map leaf_shape (map leaf_of (list_at store n.list))) = ap size_of (sym (leaf_shapes (list_at store n.list))) in
      (λ i. record {
        line = 0;
        kind = ins (record { class = n.class; inner = map leaf_of (same i); height = size i; split_depth = p.splitmaxdepth; split_top = p.splittopskip; floating = p.floatingpenalty });
      } ∷ again-shown new ns h.1 i)

-- ---- one insertion after another

-- each list of theirs is another one
pub notes-apart : (q : ℕ) (ns : List NoteBox) → IsNoneOf q (note_lists ns) → AllByRecursion (λ (n : NoteBox). n.list ≢ q) ns
notes-apart q [] h = tt
notes-apart q (n ∷ ns) h = (h.0, notes-apart q ns h.1)

-- nothing went back yet
pub again-begun : (p : Params) (store now : Lists Node) (back : ℕ) (ns : List NoteBox) → IsLive store back → now.lists ≡ store.lists → HasGrown back (insertions_again p store (take 0 ns)) [] store now
again-begun p store now back ns live same =
    subst (λ ms. HasGrown back (insertions_again p store ms) [] store now) (sym (take-zero ns)) (grown-none store now back [] (live-some (get store.lists back) live) same)

-- the list of a class holds what it held
pub again-stands : (store mid : Lists Node) (back : ℕ) (xs : List Node) (n : NoteBox) → n.list ≢ back → HasGrown back xs [] store mid → Stands store mid n.list
again-stands store mid back xs n apart grown = grown.others n.list apart tt

-- one more went back
pub again-more : (p : Params) (store mid now : Lists Node) (back : ℕ) (done : List NoteBox) (n : NoteBox) (x : Node) → n.list ≢ back → x ≡ insertion_of p n (size_of (map shape_of (list_at mid n.list)))
    → HasGrown back (insertions_again p store done) [] store mid → now.lists ≡ with_list mid back (list_at mid back ++ x ∷ []) → HasGrown back (insertions_again p store (done ++ n ∷ [])) [] store now
again-more p store mid now back done n x apart is grown pushed =
    let same : list_at mid n.list ≡ list_at store n.list = list-get store mid n.list (grown.others n.list apart tt) in
    let made : x ≡ insertion_of p n (size_of (map shape_of (list_at store n.list))) = is ∙ ap (λ (xs : List Node). insertion_of p n (size_of (map shape_of xs))) same in
    let there : list_at mid back ≡ list_at store back ++ insertions_again p store done = ap (λ (o : Option (List Node)). unwrap_or o []) grown.list in
    record {
      list =
          ap (λ m. get m back) pushed
          ∙ get-insert_same mid.lists back (list_at mid back ++ x ∷ [])
          ∙ (λ i. Some (there i ++ made i ∷ []))
          ∙ ap (λ ys. Some ys) (append_assoc (list_at store back) (insertions_again p store done) (insertion_of p n (size_of (map shape_of (list_at store n.list))) ∷ []))
          ∙ ap (λ ys. Some (list_at store back ++ ys)) (sym (map-append (λ (m : NoteBox). insertion_of p m (size_of (map shape_of (list_at store m.list)))) done (n ∷ [])));
      others = λ q ne none. ap (λ m. get m q) pushed ∙ get-insert_other mid.lists back (list_at mid back ++ x ∷ []) q ne ∙ grown.others q ne none;
    }
