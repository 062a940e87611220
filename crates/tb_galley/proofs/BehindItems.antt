-- What stands directly before an item or a line, and what may come there.
use Rattle.std.proofs.Common.{◌≡◌, ℕ, Bool, true, false, not, ◌&&◌, ◌==◌, List, [], ◌∷◌, ◌++◌, Option, Some, None, if◌then◌else◌, refl, ap, sym, ◌∙◌}
use Rattle.std.proofs.lemmas.Bool.{and_from}
use Rattle.std.specs.Cmp.{first_so, second_so}
use Rattle.tb_param.specs.declared.fields.Field.{Field}
use Rattle.tb_param.specs.declared.changes.SetPlace.{SetPlace}
use Rattle.tb_param.specs.declared.changes.SetPlace.TheVariants as places
use Rattle.tb_param.specs.Changes.{set_place}
use Rattle.tb_galley.specs.declared.Cause.TheVariants as causes
use Rattle.tb_galley.specs.declared.Item.{Item}
use Rattle.tb_galley.specs.declared.ItemKind.{ItemKind}
use Rattle.tb_galley.specs.declared.ItemKind.TheVariants as items
use Rattle.tb_galley.specs.Words.{LineWord, header, setting, foot, end, Phase, at_start, among_sets, among_items, after_clear, after_two, in_foot, ended, Behind, behind_nothing, behind_clear, behind_two, behind_other, behind_word, phase_behind, phase_among, is_end_word, open_after}
use Rattle.tb_galley.specs.Faults.{cause_if, may_be_set, set_causes, place_causes}
use Rattle.tb_galley.specs.Line.{first_of}
use Rattle.tb_galley.specs.GalleyReader.{next_phase}
use Rattle.tb_galley.specs.Valid.{behind_after, may_set, may_come, do_items_stand}
use Rattle.tb_galley.proofs.ReaderRuns.{phase_step}

-- ---- after some items

-- what stands directly before the item after these
abbrev pub behind_items : Behind → List Item → Behind
behind_items b [] = b
behind_items b (i ∷ is) = behind_items (behind_after b i.kind) is

pub behind-append : (b : Behind) (is : List Item) (i : Item) → behind_items b (is ++ i ∷ []) ≡ behind_after (behind_items b is) i.kind
behind-append b [] i = refl
behind-append b (j ∷ is) i = behind-append (behind_after b j.kind) is i

pub order-append : (b : Behind) (is : List Item) (i : Item) → do_items_stand b is ≡ true → may_come (behind_items b is) i.kind ≡ true → do_items_stand b (is ++ i ∷ []) ≡ true
order-append b [] i h k = ap (λ t. t && true) k
order-append b (j ∷ is) i h k =
    and_from (may_come b j.kind) (do_items_stand (behind_after b j.kind) (is ++ i ∷ [])) (first_so (may_come b j.kind) (do_items_stand (behind_after b j.kind) is) h)
    (order-append (behind_after b j.kind) is i (second_so (may_come b j.kind) (do_items_stand (behind_after b j.kind) is) h) k)

-- no item stands before
abbrev pub is_nothing : Behind → Bool
is_nothing behind_nothing = true
is_nothing _ = false

-- behind an item there is one
pub comes-after : (b : Behind) (k : ItemKind) → may_come b k ≡ true → is_nothing (behind_after b k) ≡ false
comes-after behind_nothing (items.Set c) h = cc
comes-after behind_clear (items.Set c) h = refl
comes-after behind_two (items.Set c) h = refl
comes-after behind_other (items.Set c) h = refl
comes-after b k h = refl

-- ---- phases

-- the phase says what stands directly before a line outside feet
abbrev pub StandsAt : Phase → Behind → Type 0
StandsAt at_start b = b ≡ behind_nothing
StandsAt among_sets b = b ≡ behind_nothing
StandsAt among_items b = b ≡ behind_other
StandsAt after_clear b = b ≡ behind_clear
StandsAt after_two b = b ≡ behind_two
StandsAt in_foot b = Unit {0}
StandsAt ended b = Unit {0}

pub stands_at : (b : Behind) → StandsAt (phase_behind b) b
stands_at behind_nothing = refl
stands_at behind_clear = refl
stands_at behind_two = refl
stands_at behind_other = refl

-- items may come in the phase, and no footnote is open
abbrev pub takes_items : Phase → Bool
takes_items at_start = false
takes_items among_sets = true
takes_items among_items = true
takes_items after_clear = true
takes_items after_two = true
takes_items in_foot = false
takes_items ended = false

pub takes_behind : (b : Behind) → takes_items (phase_behind b) ≡ true
takes_behind behind_nothing = refl
takes_behind b = refl

outside : (p : Phase) (b : Behind) → takes_items p ≡ true → StandsAt p b → phase_behind b ≡ p
outside among_sets b takes at = ap phase_behind at
outside among_items b takes at = ap phase_behind at
outside after_clear b takes at = ap phase_behind at
outside after_two b takes at = ap phase_behind at
outside p b takes at = cc

-- a word that neither begins a footnote nor ends the galley
abbrev pub goes_on : LineWord → Bool
goes_on foot = false
goes_on end = false
goes_on _ = true

not_over : (b : Behind) (w : LineWord) → goes_on w ≡ true → phase_behind b ≡ phase_among (is_end_word w) (open_after false (Some w)) b
not_over b foot h = cc
not_over b end h = cc
not_over b header h = refl
not_over b w h = refl

-- the phase after a line outside feet is by what stands before the next
pub goes-behind : (b : Behind) (w : LineWord) → goes_on w ≡ true → phase_behind (behind_word b w) ≡ next_phase (phase_behind b) (Some w)
goes-behind b w goes = not_over (behind_word b w) w goes ∙ phase_step false false b (Some w)

pub next-there : (p : Phase) (b : Behind) (w : LineWord) → takes_items p ≡ true → StandsAt p b → goes_on w ≡ true → phase_behind (behind_word b w) ≡ next_phase p (Some w)
next-there p b w takes at goes = goes-behind b w goes ∙ ap (λ q. next_phase q (Some w)) (outside p b takes at)

-- ---- where parameters may be set

-- the reader and the valid galleys have one rule
pub same_places : (b : Behind) (place : SetPlace) → may_be_set (phase_behind b) place ≡ may_set b place
same_places behind_nothing place = refl
same_places behind_clear places.Anywhere = refl
same_places behind_clear place = refl
same_places behind_two places.Anywhere = refl
same_places behind_two place = refl
same_places behind_other places.Anywhere = refl
same_places behind_other place = refl

-- where a galley of the version may set the parameter among its items
abbrev pub field_place : ℕ → Field → Option SetPlace
field_place version field = if version == 3 then Some (set_place field) else Some places.Nowhere

nowhere : (p : Phase) → may_be_set p places.Nowhere ≡ false
nowhere at_start = refl
nowhere p = refl

is_set : (t : Bool) → first_of (cause_if (not t) causes.SetAfterItem) ≡ None → t ≡ true
is_set true h = refl
is_set false h = cc

-- a parameter that is set after an item is one of version 3 that may be set there
pub set_there : (p : Phase) (version : ℕ) (field : Field) → first_of (set_causes p (field_place version field)) ≡ None → ((version == 3) ≡ true) × (may_be_set p (set_place field) ≡ true)
set_there p version field h = by_test (version == 3) h
  where
    by_test : (t : Bool) → first_of (set_causes p (if t then Some (set_place field) else Some places.Nowhere)) ≡ None → (t ≡ true) × (may_be_set p (set_place field) ≡ true)
    by_test true h = (refl, is_set (may_be_set p (set_place field)) h)
    by_test false h = let no = nowhere p in let yes : may_be_set p places.Nowhere ≡ true = is_set (may_be_set p places.Nowhere) h in cc

pub stands_set : (p : Phase) (b : Behind) (place : SetPlace) → takes_items p ≡ true → StandsAt p b → may_be_set p place ≡ true → may_set b place ≡ true
stands_set p b place takes at h = sym (same_places b place) ∙ ap (λ q. may_be_set q place) (outside p b takes at) ∙ h

-- a line of `set` that stands where it may has no cause
pub set_placed : (b : Behind) (a : Option SetPlace) (place : SetPlace) → a ≡ Some place → may_set b place ≡ true → first_of (place_causes (phase_behind b) a (Some setting)) ≡ None
set_placed b a place e may = ap (λ x. first_of (place_causes (phase_behind b) x (Some setting))) e ∙ by_place b (same_places b place ∙ may)
  where
    by_place : (b : Behind) → may_be_set (phase_behind b) place ≡ true → first_of (place_causes (phase_behind b) (Some place) (Some setting)) ≡ None
    by_place behind_nothing h = refl
    by_place behind_clear h = ap (λ t. first_of (cause_if (not t) causes.SetAfterItem)) h
    by_place behind_two h = ap (λ t. first_of (cause_if (not t) causes.SetAfterItem)) h
    by_place behind_other h = ap (λ t. first_of (cause_if (not t) causes.SetAfterItem)) h
