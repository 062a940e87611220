-- The lists of what happened are live, and once they are closed all others are as they were.
use Rattle.std.proofs.Common.{◌≡◌, ◌≢◌, sym, ◌∙◌, ap, ℕ, List, [], ◌∷◌}
use Rattle.std.specs.List.{AllByRecursion}
use Rattle.std.specs.FinMap.{get, remove}
use Rattle.tb_break.proofs.EachLemmas.{all-join}
use Rattle.tb_pool.specs.Lists.{Lists, IsLive}
use Rattle.tb_pool.specs.Frame.{IsNoneOf}
use Rattle.tb_pool.proofs.MapLemmas.{get-remove_other}
use Rattle.tb_node.specs.declared.Node.{Node}
use Rattle.tb_builder.specs.declared.Builder.{Builder}
use Rattle.tb_builder.specs.Contents.{contents_of}
use Rattle.tb_builder.specs.Ownership.{Lacks}
use Rattle.tb_builder.specs.BuilderLists.{builder_lists}
use Rattle.tb_builder.specs.Courses.{IsSound}
use Rattle.tb_builder.proofs.Ownership.FrameLemmas.{frame_owned, frame_contents, frame_sound}
use Rattle.tb_builder.proofs.Ownership.OwnedLemmas.{AllSame}
use Rattle.tb_sheet.specs.declared.Sent.TheVariants as sents
use Rattle.tb_sheet.specs.ApartLists.{AreNoneOf}
use Rattle.tb_sheet.proofs.ListsApart.{apart-swap}
use Rattle.tb_sheet.proofs.StandLemmas.{sheet-live}
use Rattle.tb_items.specs.declared.happenings.Happening.{Happening}
use Rattle.tb_items.specs.declared.happenings.Happening.TheVariants as happenings
use Rattle.tb_items.specs.Happenings.{happening_lists, happened_lists, IsPage, ArePages}

-- ---- lists of pages are live

page-live : (store : Lists Node) (x : Happening) → IsPage store x → AllByRecursion (IsLive store) (happening_lists x)
page-live store (happenings.Tried t) h = tt
page-live store (happenings.Sent (sents.Warn w)) h = tt
page-live store (happenings.Sent (sents.Ship page sheet)) h = sheet-live store sheet h

pub pages-live : (store : Lists Node) (hs : List Happening) → ArePages store hs → AllByRecursion (IsLive store) (happened_lists hs)
pages-live store [] h = tt
pages-live store (x ∷ hs) h = all-join (IsLive store) (happening_lists x) (happened_lists hs) (page-live store x h.0) (pages-live store hs h.1)

-- ---- lists that are closed

same-others : (store new : Lists Node) (closed : List ℕ) → ((q : ℕ) → IsNoneOf q closed → get new.lists q ≡ get store.lists q) → (ls : List ℕ) → AreNoneOf ls closed → AllSame store new ls
same-others store new closed others [] h = tt
same-others store new closed others (l ∷ ls) h = (others l h.0, same-others store new closed others ls h.1)

-- none of them the builder's
module _ (b : Builder) (store new : Lists Node) (closed : List ℕ) (sound : IsSound b store) (others : (q : ℕ) → IsNoneOf q closed → get new.lists q ≡ get store.lists q) (free : AreNoneOf closed (builder_lists b store)) where
  same : AllSame store new (builder_lists b store)
  same = same-others store new closed others (builder_lists b store) (apart-swap closed (builder_lists b store) free)

  pub closed-owned : builder_lists b new ≡ builder_lists b store
  closed-owned = frame_owned b store new sound same

  pub closed-contents : contents_of b new ≡ contents_of b store
  closed-contents = frame_contents b store new sound same

  pub closed-sound : IsSound b new
  closed-sound = frame_sound b store new sound same

-- one list is closed: every other is as it was
module _ (t u : Lists Node) (l : ℕ) (closed : u.lists ≡ remove t.lists l) where
  pub closed-other : (q : ℕ) → q ≢ l → get u.lists q ≡ get t.lists q
  closed-other q ne = ap (λ m. get m q) closed ∙ get-remove_other t.lists l q ne

  pub all-other : (xs : List ℕ) → Lacks l xs → AllSame t u xs
  all-other [] h = tt
  all-other (x ∷ xs) h = (closed-other x (λ e. h.0 (sym e)), all-other xs h.1)
