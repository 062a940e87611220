-- What holds of a builder stays in a store with the same lists and other spare places.
use Rattle.std.proofs.Common.{◌≡◌, refl, sym, subst, ◌∙◌, ap, ℕ, true, false, List, [], ◌++◌, is_some, unwrap_or, IsSome}
use Rattle.std.specs.FinMap.{FinMap, get}
use Rattle.std.specs.Ordering.{nat_cmp}
use Rattle.tb_pool.specs.Lists.{Lists, IsLive, list_at}
use Rattle.tb_node.specs.declared.Node.{Node}
use Rattle.tb_builder.specs.declared.Ask.{Ask}
use Rattle.tb_builder.specs.declared.Builder.{Builder}
use Rattle.tb_builder.specs.Reach.{holds_box}
use Rattle.tb_builder.specs.Contents.{Contents, contents_of}
use Rattle.tb_builder.specs.Ownership.{Ids, ids_of, owned, Lacks, classes_of, IsOwned, KeepsOthers}
use Rattle.tb_builder.specs.Courses.{AllLasting, IsPageSoFar, freezes, IsSound}
use Rattle.tb_builder.specs.PageEvents.{NextFits}
use Rattle.tb_builder.proofs.Ownership.OwnedLemmas.{known-right}
use Rattle.tb_builder.proofs.Turns.MoveLemmas.{written_own}

module _ (s t : Lists Node) (same : t.lists ≡ s.lists) where
  pub one_same : (q : ℕ) → get t.lists q ≡ get s.lists q
  one_same q = ap (λ m. get m q) same

  pub live_still : (q : ℕ) → IsLive s q → IsLive t q
  live_still q live = ap is_some (one_same q) ∙ live

  list_still : (q : ℕ) → list_at t q ≡ list_at s q
  list_still q = ap (λ o. unwrap_or o []) (one_same q)

  pub contents_still : (b : Builder) → contents_of b t ≡ contents_of b s
  contents_still b = ap (λ m. contents_of b (with_lists m)) same
    where
      with_lists : FinMap nat_cmp (List Node) → Lists Node
      with_lists m = record { lists = m; spare = 0 }

  pub owned_still : (b : Ids) → owned b t ≡ owned b s
  owned_still b = ap (λ m. owned b (with_lists m)) same
    where
      with_lists : FinMap nat_cmp (List Node) → Lists Node
      with_lists m = record { lists = m; spare = 0 }

  pub own_still : (b : Ids) → IsOwned b s → IsOwned b t
  own_still b own = written_own b s t (list_at s b.page) (list_at s b.waiting) own (record {
    page_is = list_still b.page;
    waiting_is = list_still b.waiting;
    page_live = live_still b.page own.live.0;
    waiting_live = live_still b.waiting own.live.1.0;
    others = λ q p w. one_same q;
    inner_is = refl;
    known_is = known-right (classes_of b) (list_at s b.held) (list_at s b.page ++ list_at s b.waiting) own.known;
  })

  pub sound_still : (b : Builder) → IsSound b s → IsSound b t
  sound_still b sound = record {
    own = own_still (ids_of b) sound.own;
    opened = subst (λ (c : Contents). b.opened ≡ holds_box c.page) (sym (contents_still b)) sound.opened;
    closed = subst (λ (c : Contents). b.opened ≡ false → AllLasting c.page) (sym (contents_still b)) sound.closed;
    page = subst (IsPageSoFar b.frozen b.stopped b.course) (sym (contents_still b)) sound.page;
    met = subst (λ (c : Contents). IsSome b.frozen → b.stopped ≡ false → freezes c.page ≡ true) (sym (contents_still b)) sound.met;
  }

  pub fits_still : (b : Builder) (ask : Ask) → NextFits (contents_of b s) ask → NextFits (contents_of b t) ask
  fits_still b ask fits = subst (λ c. NextFits c ask) (sym (contents_still b)) fits

  -- the page was filled after memory was taken
  pub keeps_filled : (b d : Builder) (r : Lists Node) → ((q : ℕ) → Lacks q (owned (ids_of b) t) → get r.lists q ≡ get t.lists q) → ((q : ℕ) → Lacks q (owned (ids_of b) t) → Lacks q (owned (ids_of d) r)) → KeepsOthers (ids_of b) s (ids_of d) r
  keeps_filled b d r others keeps = record {
    others = λ q live h. others q (subst (Lacks q) (sym (owned_still (ids_of b))) h) ∙ one_same q;
    apart = λ q live h. keeps q (subst (Lacks q) (sym (owned_still (ids_of b))) h);
  }

  -- other lists stay while memory is taken
  pub keeps_room : (b : Builder) → KeepsOthers (ids_of b) s (ids_of b) t
  keeps_room b = record {
    others = λ q live h. one_same q;
    apart = λ q live h. subst (Lacks q) (sym (owned_still (ids_of b))) h;
  }
