-- What happened, and the lists of it.
use Rattle.std.proofs.Common.{◌≡◌, ◌≢◌, refl, sym, subst, ◌∙◌, ap, ℕ, zero, suc, ◌+◌, ◌<◌, Bool, true, false, List, [], ◌∷◌, ◌++◌, length, map, take, drop, get_or, None, append_assoc, append-nil}
use Rattle.std.specs.List.{AllByRecursion}
use Rattle.std.specs.FinMap.{get}
use Rattle.std.proofs.lemmas.List.{take_more, map-append}
use Rattle.tb_break.proofs.EachLemmas.{all-front, all-back, all-join}
use Rattle.tb_pool.specs.Lists.{Lists, IsLive}
use Rattle.tb_pool.specs.Frame.{IsNoneOf}
use Rattle.tb_node.specs.declared.Node.{Node}
use Rattle.tb_builder.specs.declared.Try.{Try}
use Rattle.tb_sheet.specs.declared.Warn.{Warn}
use Rattle.tb_sheet.specs.Sheet.{PlainSent, warned}
use Rattle.tb_column.specs.Notes.{AreDistinct}
use Rattle.tb_sheet.specs.ApartLists.{AreNoneOf}
use Rattle.tb_sheet.proofs.ListsApart.{apart-swap, distinct-front, distinct-back, distinct-apart}
use Rattle.tb_sheet.proofs.StandLemmas.{live-same}
use Rattle.tb_items.specs.declared.happenings.Happening.{Happening}
use Rattle.tb_items.specs.RunEvents.{RunEvent, offered, sent}
use Rattle.tb_items.specs.Happenings.{event_of, events_of, noted_try, noted_event, noted, happening_lists, happened_lists}

-- ---- lists one after another

pub lists-append : (hs ks : List Happening) → happened_lists (hs ++ ks) ≡ happened_lists hs ++ happened_lists ks
lists-append [] ks = refl
lists-append (h ∷ hs) ks = ap (λ ls. happening_lists h ++ ls) (lists-append hs ks) ∙ sym (append_assoc (happening_lists h) (happened_lists hs) (happened_lists ks))

join-parts : {X : Type 0} (k : ℕ) (xs : List X) → take k xs ++ drop k xs ≡ xs
join-parts zero xs = refl
join-parts (suc k) [] = refl
join-parts (suc k) (x ∷ xs) = ap (λ ys. x ∷ ys) (join-parts k xs)

module _ (hs : List Happening) (i : ℕ) (x : Happening) (within : i < length hs) (is : x ≡ get_or hs i x) where
  abbrev before : List ℕ
  before = happened_lists (take i hs)

  lists-more : happened_lists (take (i + 1) hs) ≡ before ++ happening_lists x
  lists-more =
      ap happened_lists (take_more hs i x within)
      ∙ ap (λ y. happened_lists (take i hs ++ y ∷ [])) (sym is)
      ∙ lists-append (take i hs) (x ∷ [])
      ∙ ap (λ ls. before ++ ls) (append-nil (happening_lists x))

  lists-whole : happened_lists hs ≡ (before ++ happening_lists x) ++ happened_lists (drop (i + 1) hs)
  lists-whole = ap happened_lists (sym (join-parts (i + 1) hs)) ∙ lists-append (take (i + 1) hs) (drop (i + 1) hs) ∙ ap (λ ls. ls ++ happened_lists (drop (i + 1) hs)) lists-more

  module _ (old now new : Lists Node) (live : AllByRecursion (IsLive old) (happened_lists hs)) (distinct : AreDistinct (happened_lists hs)) (closed : AllByRecursion (λ q. get now.lists q ≡ None) before) (others : (q : ℕ) → IsNoneOf q before → get now.lists q ≡ get old.lists q) where
    front-distinct : AreDistinct (before ++ happening_lists x)
    front-distinct = distinct-front (before ++ happening_lists x) _ (subst AreDistinct lists-whole distinct)

    pub here-distinct : AreDistinct (happening_lists x)
    here-distinct = distinct-back before (happening_lists x) front-distinct

    here-apart : AreNoneOf (happening_lists x) before
    here-apart = apart-swap before (happening_lists x) (distinct-apart before (happening_lists x) front-distinct)

    still : (ls : List ℕ) → AreNoneOf ls before → AllByRecursion (IsLive old) ls → AllByRecursion (IsLive now) ls
    still [] none h = tt
    still (l ∷ ls) none h = (live-same old now l (others l none.0) h.0, still ls none.1 h.1)

    pub here-live : AllByRecursion (IsLive now) (happening_lists x)
    here-live = still (happening_lists x) here-apart (all-back (IsLive old) before (happening_lists x) (all-front (IsLive old) (before ++ happening_lists x) _ (subst (AllByRecursion (IsLive old)) lists-whole live)))

    module _ (here : AllByRecursion (λ q. get new.lists q ≡ None) (happening_lists x)) (rest : (q : ℕ) → IsNoneOf q (happening_lists x) → get new.lists q ≡ get now.lists q) where
      stays : (ls : List ℕ) → AreNoneOf ls (happening_lists x) → AllByRecursion (λ q. get now.lists q ≡ None) ls → AllByRecursion (λ q. get new.lists q ≡ None) ls
      stays [] none h = tt
      stays (l ∷ ls) none h = (rest l none.0 ∙ h.0, stays ls none.1 h.1)

      pub closed-more : AllByRecursion (λ q. get new.lists q ≡ None) (happened_lists (take (i + 1) hs))
      closed-more = subst (AllByRecursion (λ q. get new.lists q ≡ None)) (sym lists-more) (all-join (λ q. get new.lists q ≡ None) before (happening_lists x) (stays before (distinct-apart before (happening_lists x) front-distinct) closed) here)

      pub others-more : (q : ℕ) → IsNoneOf q (happened_lists (take (i + 1) hs)) → get new.lists q ≡ get old.lists q
      others-more q none =
          let both = subst (IsNoneOf q) lists-more none in
          rest q (all-back (λ l. l ≢ q) before (happening_lists x) both) ∙ others q (all-front (λ l. l ≢ q) before (happening_lists x) both)

-- ---- what is noted of events

pub noted-append : (wanted : Bool) (es fs : List RunEvent) → noted wanted (es ++ fs) ≡ noted wanted es ++ noted wanted fs
noted-append wanted [] fs = refl
noted-append wanted (e ∷ es) fs = ap (λ xs. noted_event wanted e ++ xs) (noted-append wanted es fs) ∙ sym (append_assoc (noted_event wanted e) (noted wanted es) (noted wanted fs))

-- all that is sent is noted
pub noted-sent : (wanted : Bool) (ws : List PlainSent) → noted wanted (map sent ws) ≡ map sent ws
noted-sent wanted [] = refl
noted-sent wanted (w ∷ ws) = ap (λ xs. sent w ∷ xs) (noted-sent wanted ws)

pub noted-warned : (wanted : Bool) (ws : List Warn) → noted wanted (map (λ w. sent (warned w)) ws) ≡ map (λ w. sent (warned w)) ws
noted-warned wanted [] = refl
noted-warned wanted (w ∷ ws) = ap (λ xs. sent (warned w) ∷ xs) (noted-warned wanted ws)

pub try-noted : (wanted : Bool) (store : Lists Node) (t : Try) → events_of store (noted_try wanted t) ≡ noted wanted (offered t ∷ [])
try-noted true store t = refl
try-noted false store t = refl

pub try-lists : (wanted : Bool) (t : Try) → happened_lists (noted_try wanted t) ≡ []
try-lists true t = refl
try-lists false t = refl

pub events-append : (store : Lists Node) (hs ks : List Happening) → events_of store (hs ++ ks) ≡ events_of store hs ++ events_of store ks
events-append store hs ks = map-append (event_of store) hs ks
