-- The lists of a builder, while nodes go from one to another.
use Rattle.std.proofs.Common.{◌≡◌, refl, sym, subst, ◌∙◌, ap, ℕ, List, [], ◌∷◌, ◌++◌, map, is_some, unwrap_or, append_assoc}
use Rattle.std.specs.Prelude.{option_to_list}
use Rattle.std.specs.FinMap.{get}
use Rattle.tb_pool.specs.Lists.{Lists, list_at}
use Rattle.tb_node.specs.declared.Node.{Node}
use Rattle.tb_node.specs.declared.Insertion.{Insertion}
use Rattle.tb_node.specs.declared.Kind.{Kind}
use Rattle.tb_node.specs.declared.Kind.TheVariants as kinds
use Rattle.tb_node.specs.PlainNodes.{PlainNode, plain_of, ins, leaf_of}
use Rattle.tb_insert.specs.declared.Class.{Class}
use Rattle.tb_builder.specs.declared.ClassList.{ClassList}
use Rattle.tb_builder.specs.Ownership.{Lacks, AllDiffer, AllLive, inner_of, inner_ids, box_ids, AllPlain, HoldPlain, VoidEmpty, AllKnown}
use Rattle.tb_builder.specs.FiredPages.{Boxed}
use Rattle.tb_builder.specs.Contents.{content_by, boxed_of}

-- ---- ids that differ

pub lacks-append : (x : ℕ) (xs ys : List ℕ) → Lacks x xs → Lacks x ys → Lacks x (xs ++ ys)
lacks-append x [] ys a b = b
lacks-append x (y ∷ xs) ys a b = (a.0, lacks-append x xs ys a.1 b)

pub lacks-left : (x : ℕ) (xs ys : List ℕ) → Lacks x (xs ++ ys) → Lacks x xs
lacks-left x [] ys h = tt
lacks-left x (y ∷ xs) ys h = (h.0, lacks-left x xs ys h.1)

pub lacks-right : (x : ℕ) (xs ys : List ℕ) → Lacks x (xs ++ ys) → Lacks x ys
lacks-right x [] ys h = h
lacks-right x (y ∷ xs) ys h = lacks-right x xs ys h.1

-- no id of one list is in the other
abbrev pub Apart : List ℕ → List ℕ → Type 0
Apart [] ys = Unit {0}
Apart (x ∷ xs) ys = Lacks x ys × Apart xs ys

pub differ-left : (xs ys : List ℕ) → AllDiffer (xs ++ ys) → AllDiffer xs
differ-left [] ys h = tt
differ-left (x ∷ xs) ys h = (lacks-left x xs ys h.0, differ-left xs ys h.1)

pub differ-right : (xs ys : List ℕ) → AllDiffer (xs ++ ys) → AllDiffer ys
differ-right [] ys h = h
differ-right (x ∷ xs) ys h = differ-right xs ys h.1

pub differ-apart : (xs ys : List ℕ) → AllDiffer (xs ++ ys) → Apart xs ys
differ-apart [] ys h = tt
differ-apart (x ∷ xs) ys h = (lacks-right x xs ys h.0, differ-apart xs ys h.1)

pub differ-append : (xs ys : List ℕ) → AllDiffer xs → AllDiffer ys → Apart xs ys → AllDiffer (xs ++ ys)
differ-append [] ys a b h = b
differ-append (x ∷ xs) ys a b h = (lacks-append x xs ys a.0 h.0, differ-append xs ys a.1 b h.1)

-- ---- lists of the store

pub live-append : (s : Lists Node) (xs ys : List ℕ) → AllLive s xs → AllLive s ys → AllLive s (xs ++ ys)
live-append s [] ys a b = b
live-append s (x ∷ xs) ys a b = (a.0, live-append s xs ys a.1 b)

pub live-left : (s : Lists Node) (xs ys : List ℕ) → AllLive s (xs ++ ys) → AllLive s xs
live-left s [] ys h = tt
live-left s (x ∷ xs) ys h = (h.0, live-left s xs ys h.1)

pub live-right : (s : Lists Node) (xs ys : List ℕ) → AllLive s (xs ++ ys) → AllLive s ys
live-right s [] ys h = h
live-right s (x ∷ xs) ys h = live-right s xs ys h.1

pub plain-append : (s : Lists Node) (xs ys : List ℕ) → HoldPlain s xs → HoldPlain s ys → HoldPlain s (xs ++ ys)
plain-append s [] ys a b = b
plain-append s (x ∷ xs) ys a b = (a.0, plain-append s xs ys a.1 b)

pub plain-left : (s : Lists Node) (xs ys : List ℕ) → HoldPlain s (xs ++ ys) → HoldPlain s xs
plain-left s [] ys h = tt
plain-left s (x ∷ xs) ys h = (h.0, plain-left s xs ys h.1)

pub plain-right : (s : Lists Node) (xs ys : List ℕ) → HoldPlain s (xs ++ ys) → HoldPlain s ys
plain-right s [] ys h = h
plain-right s (x ∷ xs) ys h = plain-right s xs ys h.1

pub known-append : (cs : List Class) (xs ys : List Node) → AllKnown cs xs → AllKnown cs ys → AllKnown cs (xs ++ ys)
known-append cs [] ys a b = b
known-append cs (x ∷ xs) ys a b = (a.0, known-append cs xs ys a.1 b)

pub known-left : (cs : List Class) (xs ys : List Node) → AllKnown cs (xs ++ ys) → AllKnown cs xs
known-left cs [] ys h = tt
known-left cs (x ∷ xs) ys h = (h.0, known-left cs xs ys h.1)

pub known-right : (cs : List Class) (xs ys : List Node) → AllKnown cs (xs ++ ys) → AllKnown cs ys
known-right cs [] ys h = h
known-right cs (x ∷ xs) ys h = known-right cs xs ys h.1

-- ids whose lists are the same in two stores
abbrev pub AllSame : Lists Node → Lists Node → List ℕ → Type 0
AllSame s t [] = Unit {0}
AllSame s t (x ∷ xs) = (get t.lists x ≡ get s.lists x) × AllSame s t xs

-- none of these ids was changed
pub same_from : (s t : Lists Node) (changed xs : List ℕ) → ((q : ℕ) → Lacks q changed → get t.lists q ≡ get s.lists q) → Apart xs changed → AllSame s t xs
same_from s t changed [] h a = tt
same_from s t changed (x ∷ xs) h a = (h x a.0, same_from s t changed xs h a.1)

pub lists_same : (s t : Lists Node) (x : ℕ) → get t.lists x ≡ get s.lists x → list_at t x ≡ list_at s x
lists_same s t x e = ap (λ o. unwrap_or o []) e

pub live_same : (s t : Lists Node) (xs : List ℕ) → AllSame s t xs → AllLive s xs → AllLive t xs
live_same s t [] h l = tt
live_same s t (x ∷ xs) h l = (ap is_some h.0 ∙ l.0, live_same s t xs h.1 l.1)

pub plain_same : (s t : Lists Node) (xs : List ℕ) → AllSame s t xs → HoldPlain s xs → HoldPlain t xs
plain_same s t [] h p = tt
plain_same s t (x ∷ xs) h p = (subst AllPlain (sym (lists_same s t x h.0)) p.0, plain_same s t xs h.1 p.1)

pub void_same : (s t : Lists Node) (es : List ClassList) → AllSame s t (box_ids es) → VoidEmpty s es → VoidEmpty t es
void_same s t [] h v = tt
void_same s t (e ∷ es) h v = ((λ x. lists_same s t e.list h.0 ∙ v.0 x), void_same s t es h.1 v.1)

pub boxes_same : (s t : Lists Node) (es : List ClassList) → AllSame s t (box_ids es) → map (boxed_of t) es ≡ map (boxed_of s) es
boxes_same s t [] h = refl
boxes_same s t (e ∷ es) h = λ i. boxed_with e (lists_same s t e.list h.0 i) ∷ boxes_same s t es h.1 i
  where
    boxed_with : ClassList → List Node → Boxed
    boxed_with e ns = record { number = e.class.number; content = content_by e.void (map leaf_of ns) }

-- an insertion with this list
abbrev with_inner : ℕ → Insertion → List Node → PlainNode
with_inner line j ys = record { line = line; kind = ins (record { class = j.class; inner = map leaf_of ys; height = j.height; split_depth = j.split_depth; split_top = j.split_top; floating = j.floating }) }

-- nodes seen in another store, in which the lists of their insertions are the same
pub view_same : (s t : Lists Node) (ns : List Node) → AllSame s t (inner_ids ns) → map (plain_of (list_at t)) ns ≡ map (plain_of (list_at s)) ns
view_same s t [] same = refl
view_same s t (n ∷ ns) same = λ i. by_kind n.kind same i ∷ view_same s t ns (rest n.kind same) i
  where
    by_kind : (k : Kind) → AllSame s t (option_to_list (inner_of k) ++ inner_ids ns) → (let x : Node = record { line = n.line; kind = k } in plain_of (list_at t) x ≡ plain_of (list_at s) x)
    by_kind (kinds.Ins j) same = ap (λ ys. with_inner n.line j ys) (lists_same s t j.list same.0)
    by_kind k same = refl

    rest : (k : Kind) → AllSame s t (option_to_list (inner_of k) ++ inner_ids ns) → AllSame s t (inner_ids ns)
    rest (kinds.Ins j) same = same.1
    rest k same = same

pub inner-append : (ms ns : List Node) → inner_ids (ms ++ ns) ≡ inner_ids ms ++ inner_ids ns
inner-append [] ns = refl
inner-append (m ∷ ms) ns = ap (λ xs. option_to_list (inner_of m.kind) ++ xs) (inner-append ms ns) ∙ sym (append_assoc (option_to_list (inner_of m.kind)) (inner_ids ms) (inner_ids ns))

pub same-left : (s t : Lists Node) (xs ys : List ℕ) → AllSame s t (xs ++ ys) → AllSame s t xs
same-left s t [] ys h = tt
same-left s t (x ∷ xs) ys h = (h.0, same-left s t xs ys h.1)

pub same-right : (s t : Lists Node) (xs ys : List ℕ) → AllSame s t (xs ++ ys) → AllSame s t ys
same-right s t [] ys h = h
same-right s t (x ∷ xs) ys h = same-right s t xs ys h.1
