-- Marks, notes and whatsits go together on a page without a box.
use Rattle.std.proofs.Common.{◌≡◌, ◌≢◌, refl, sym, subst, ◌∙◌, ap, ℕ, zero, suc, ◌+◌, ◌<◌, ◌≤◌, Bool, true, false, List, [], ◌∷◌, ◌++◌, length, drop, None, arith}
use Rattle.std.specs.Prelude.{if◌then◌else◌}
use Rattle.std.specs.FinMap.{insert}
use Rattle.tb_pool.specs.Lists.{Lists, list_at, with_list}
use Rattle.tb_node.specs.declared.Node.{Node}
use Rattle.tb_node.specs.declared.Kind.{Kind}
use Rattle.tb_node.specs.declared.Kind.TheVariants as kinds
use Rattle.tb_node.specs.Shape.{other}
use Rattle.tb_node.specs.PlainNodes.{shape_of, plain_kind}
use Rattle.tb_node.specs.Roles.{act_of_kind}
use Rattle.tb_builder.specs.declared.Ask.{Ask}
use Rattle.tb_builder.specs.declared.Builder.{Builder}
use Rattle.tb_builder.specs.Contents.{contents_of}
use Rattle.tb_builder.specs.Ownership.{Ids, ids_of}
use Rattle.tb_builder.specs.Courses.{IsSound, is_loose}
use Rattle.tb_builder.specs.PageEvents.{NextFits}
use Rattle.tb_builder.specs.PageWalks.{moved, LeadsOn, is_still, still_count}
use Rattle.tb_builder.proofs.Turns.MoveLemmas.{written_shift}
use Rattle.tb_builder.proofs.Turns.MeetLemmas.{passed_loose}
use Rattle.tb_builder.proofs.Events.WalkLemmas.{leads_here, leads_after, leads_turn, moved_none, moved_step, moved_waiting, apart_waiting}

-- the node at this place of a list is a mark, a note or a whatsit
record StillAt (ns : List Node) (k : ℕ) : Type 0 where
  pub n : Node
  pub next : drop k ns ≡ n ∷ drop (k + 1) ns
  pub still : is_still n.kind ≡ true

still_at : (ns : List Node) (k : ℕ) → k < still_count ns → StillAt ns k
still_at [] k lt = absurd (omega arith)
still_at (n ∷ ns) k lt = by_kind (is_still n.kind) refl k lt (still_at ns)
  where
    by_kind : (b : Bool) → is_still n.kind ≡ b → (k : ℕ) → k < (if b then still_count ns + 1 else 0) → ((j : ℕ) → j < still_count ns → StillAt ns j) → StillAt (n ∷ ns) k
    by_kind false e k lt later = absurd (omega arith)
    by_kind true e zero lt later = record { n = n; next = refl; still = e }
    by_kind true e (suc k) lt later =
        let x = later k (omega arith) in
        let shift : suc k + 1 ≡ suc (k + 1) = omega arith in
        record { n = x.n; next = x.next ∙ ap (λ m. x.n ∷ drop m (n ∷ ns)) (sym shift); still = x.still }

-- there are no more of them than nodes
pub still_few : (ns : List Node) → still_count ns ≤ length ns
still_few [] = omega arith
still_few (n ∷ ns) = by_kind (is_still n.kind) (still_few ns)
  where
    by_kind : (b : Bool) → still_count ns ≤ length ns → (if b then still_count ns + 1 else 0) ≤ length (n ∷ ns)
    by_kind false few = omega arith
    by_kind true few = omega arith

still_act : (k : Kind) → is_still k ≡ true → act_of_kind k ≡ None
still_act (kinds.Act a) e = cc
still_act k e = refl

still_shape : (n : Node) → is_still n.kind ≡ true → shape_of n ≡ other
still_shape n e = by_kind n.kind e
  where
    by_kind : (k : Kind) → is_still k ≡ true → (let x : Node = record { line = n.line; kind = k } in shape_of x ≡ other)
    by_kind (kinds.Mark name) e = refl
    by_kind (kinds.Note name) e = refl
    by_kind kinds.Whatsit e = refl
    by_kind k e = cc

still_loose : (held : ℕ → List Node) (k : Kind) → is_still k ≡ true → is_loose (plain_kind held k) ≡ true
still_loose held (kinds.Mark name) e = refl
still_loose held (kinds.Note name) e = refl
still_loose held kinds.Whatsit e = refl
still_loose held k e = cc

-- no room is taken
spare_same : (i : Ids) (s : Lists Node) (k m : ℕ) → (moved i s k).spare ≤ (moved i s m).spare
unfolding moved
spare_same i s k m = omega arith

-- the builder once its page ends with one of them
abbrev pub lasting : Builder → Builder
lasting d = record d { course = record d.course { lasting = true } }

module _ (b : Builder) (s : Lists Node) (ask : Ask) (sound : IsSound b s) (fits : NextFits (contents_of b s) ask) where
  goes : (d : Builder) (k : ℕ) → ids_of d ≡ ids_of b → d.stopped ≡ false → k < still_count (list_at s b.waiting) → LeadsOn b s ask d (moved (ids_of b) s k)
      → LeadsOn b s ask (lasting d) (moved (ids_of b) s (k + 1))
  goes d k ids on lt h =
      let here = moved (ids_of b) s k in
      let there = moved (ids_of b) s (k + 1) in
      let x = still_at (list_at s b.waiting) k lt in
      let ns = drop (k + 1) (list_at s b.waiting) in
      let apart = apart_waiting (ids_of b) s sound.own in
      let first : list_at here d.waiting ≡ x.n ∷ ns = ap (λ (i : Ids). list_at here i.waiting) ids ∙ moved_waiting (ids_of b) s apart k ∙ x.next in
      let step = moved_step (ids_of b) s apart k x.n x.next ∙ ap (λ (i : Ids). insert (with_list here i.waiting ns) i.page (list_at here i.page ++ x.n ∷ [])) (sym ids) in
      leads_after ask b d (lasting d) s here there h (leads_turn ask d (lasting d) here there on h.fits (
      passed_loose d (lasting d) here there ask x.n ns h.sound on refl first (written_shift (ids_of d) here there x.n ns h.sound.own first step) (spare_same (ids_of b) s k (k + 1)) refl
      (still_shape x.n x.still) (still_act x.n.kind x.still) refl on (still_loose (list_at here) x.n.kind x.still) refl refl refl refl
      ))

  still_leads : (k : ℕ) → b.stopped ≡ false → k < still_count (list_at s b.waiting) → LeadsOn b s ask (lasting b) (moved (ids_of b) s (k + 1))
  still_leads zero on lt = goes b 0 refl on lt (subst (LeadsOn b s ask b) (moved_none (ids_of b) s sound.own) (leads_here ask b s sound fits))
  still_leads (suc k) on lt =
      let same : k + 1 ≡ suc k = omega arith in
      goes (lasting b) (suc k) refl on lt (subst (λ m. LeadsOn b s ask (lasting b) (moved (ids_of b) s m)) same (still_leads k on (omega arith)))

  -- some of them went
  pub still_went : (k : ℕ) → b.stopped ≡ false → k ≢ 0 → k ≤ still_count (list_at s b.waiting) → LeadsOn b s ask (lasting b) (moved (ids_of b) s k)
  still_went zero on some le = absurd (some refl)
  still_went (suc k) on some le = let same : k + 1 ≡ suc k = omega arith in subst (λ m. LeadsOn b s ask (lasting b) (moved (ids_of b) s m)) same (still_leads k on (omega arith))
