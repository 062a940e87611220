-- Nodes are handed to the page builder.
use Rattle.std.proofs.Common.{◌≡◌, refl, sym, subst, ◌∙◌, ap, ℕ, true, List, [], ◌∷◌, ◌++◌, None, IsSome, is_some, append_assoc, append-nil}
use Rattle.std.specs.Prelude.{option_to_list, Result, Ok, Err, OnOk}
use Rattle.std.specs.FinMap.{get}
use Rattle.std.proofs.lemmas.Bool.{true≢false}
use Rattle.tb_pool.specs.Lists.{Lists, list_at}
use Rattle.tb_node.specs.declared.Kind.{Kind}
use Rattle.tb_node.specs.declared.Kind.TheVariants as kinds
use Rattle.tb_node.specs.declared.Node.{Node}
use Rattle.tb_node.specs.PlainNodes.{PlainNode, plain_kind, plain_of}
use Rattle.tb_insert.specs.declared.Class.{Class}
use Rattle.tb_builder.specs.declared.Builder.{Builder}
use Rattle.tb_builder.specs.Contents.{Contents, contents_of}
use Rattle.tb_builder.specs.Ownership.{Lacks, inner_of, inner_ids, ids_of, owned, is_known, classes_of}
use Rattle.tb_builder.specs.Courses.{IsSound}
use Rattle.tb_builder.specs.Contributions.{NodesJoin, MayWait}
use Rattle.tb_builder.proofs.Ownership.FrameLemmas.{plain_joins}
use Rattle.tb_builder.proofs.Ownership.SpareLemmas.{contents_still, owned_still, sound_still}
use Rattle.tb_items.specs.WaitingNodes.{CanTake, Waits, lone}

-- one after the other
pub waits-then : (ns ms : List PlainNode) (b : Builder) (s : Lists Node) (d : Builder) (t : Lists Node) (e : Builder) (u : Lists Node) → Waits ns b s d t → Waits ms d t e u → Waits (ns ++ ms) b s e u
waits-then ns ms b s d t e u w x = record {
  sound = x.sound;
  contents =
      x.contents
      ∙ ap (λ (c : Contents). record c { waiting = c.waiting ++ ms }) w.contents
      ∙ ap (λ xs. record (contents_of b s) { waiting = xs }) (append_assoc (contents_of b s).waiting ns ms);
  others = λ q live apart. x.others q (subst IsSome (sym (w.others q live apart)) live) (w.apart q live apart) ∙ w.others q live apart;
  apart = λ q live apart. x.apart q (subst IsSome (sym (w.others q live apart)) live) (w.apart q live apart);
}

-- other places of the store are spare
pub waits-nothing : (b : Builder) (s t : Lists Node) → t.lists ≡ s.lists → IsSound b s → Waits [] b s b t
waits-nothing b s t same h = record {
  sound = sound_still s t same b h;
  contents = contents_still s t same b ∙ ap (λ xs. record (contents_of b s) { waiting = xs }) (sym (append-nil (contents_of b s).waiting));
  others = λ q live apart. ap (λ m. get m q) same;
  apart = λ q live apart. subst (Lacks q) (sym (owned_still s t same (ids_of b))) apart;
}

-- ---- one node

lone-known : (cs : List Class) (k : Kind) → inner_of k ≡ None → is_known cs k ≡ true
lone-known cs (kinds.Ins i) e = absurd (true≢false (ap is_some e))
lone-known cs k e = refl

lone-alone : (held : ℕ → List Node) (k : Kind) → inner_of k ≡ None → plain_kind held k ≡ plain_kind (λ l. []) k
lone-alone held (kinds.Ins i) e = absurd (true≢false (ap is_some e))
lone-alone held k e = refl

module _ (b : Builder) (s : Lists Node) (line : ℕ) (k : Kind) (h : CanTake b s) (e : inner_of k ≡ None) where
  abbrev n : Node
  n = record { line = line; kind = k }

  pub lone-joins : NodesJoin (ids_of b) s (n ∷ [])
  lone-joins = plain_joins (ids_of b) s n h.sound.own e (lone-known (classes_of (ids_of b)) k e)

  pub lone-may : MayWait (contents_of b s) (plain_of (list_at s) n)
  lone-may = λ kern acts. absurd (true≢false (sym kern ∙ h.no_kern))

  pub lone-waits : (d : Builder) (t : Lists Node) → IsSound d t → contents_of d t ≡ record (contents_of b s) { waiting = (contents_of b s).waiting ++ plain_of (list_at s) n ∷ [] }
      → ((q : ℕ) → Lacks q (owned (ids_of b) s) → get t.lists q ≡ get s.lists q) → ((q : ℕ) → Lacks q (owned (ids_of b) s ++ inner_ids (n ∷ [])) → Lacks q (owned (ids_of d) t)) → Waits (lone line k ∷ []) b s d t
  lone-waits d t sound contents others keeps = record {
    sound = sound;
    contents = contents ∙ ap (λ x. record (contents_of b s) { waiting = (contents_of b s).waiting ++ record { line = line; kind = x } ∷ [] }) (lone-alone (list_at s) k e);
    others = λ q live apart. others q apart;
    apart = λ q live apart. keeps q (subst (λ xs. Lacks q (owned (ids_of b) s ++ xs)) (sym none) (subst (Lacks q) (sym (append-nil (owned (ids_of b) s))) apart));
  }
    where
      none : inner_ids (n ∷ []) ≡ []
      none = ap (λ o. option_to_list o ++ []) e

-- the same for an `Ok`
pub on-ok : {T E : Type 0} {A B : Type 0} (r : Result T E) → (A → B) → OnOk r A → OnOk r B
on-ok (Ok x) f a = f a
on-ok (Err e) f a = tt
