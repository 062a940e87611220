-- A store of which some lists were changed.
use Rattle.std.proofs.Common.{◌≡◌, ◌≢◌, ℕ, List, [], ◌++◌, append_assoc, Option, None, is_some, unwrap_or, sym, ap, ◌∙◌, arith}
use Rattle.std.proofs.lemmas.Bool.{true≢false}
use Rattle.std.specs.FinMap.{FinMap, get, insert, remove}
use Rattle.std.specs.Ordering.{nat_cmp}
use Rattle.tb_pool.specs.Lists.{Lists, IsLive, list_at, with_list}
use Rattle.tb_pool.proofs.CallerLemmas.{list_same, list_other, insert-twice, with_list-twice}
use Rattle.tb_pool.proofs.MapLemmas.{same_from_get, list_steps}
use Rattle.tb_float.proofs.MoveLemmas.{joined-lists}

module _ {T : Type 0} where
  -- values were added at its end twice
  pub with_list-added : (a b c : Lists T) (l : ℕ) (xs ys : List T) → b.lists ≡ with_list a l (list_at a l ++ xs) → c.lists ≡ with_list b l (list_at b l ++ ys) → c.lists ≡ with_list a l (list_at a l ++ (xs ++ ys))
  with_list-added a b c l xs ys e f =
      with_list-twice a b c l (list_at a l ++ xs) (list_at b l ++ ys) e f
      ∙ ap (λ t. with_list a l (t ++ ys)) (list_same a b l (list_at a l ++ xs) e)
      ∙ ap (with_list a l) (append_assoc (list_at a l) xs ys)

  -- what a list of the same store holds
  pub list-get : (old now : Lists T) (q : ℕ) → get now.lists q ≡ get old.lists q → list_at now q ≡ list_at old q
  list-get old now q e = ap (λ (o : Option (List T)). unwrap_or o []) e

  pub live-get : (old now : Lists T) (q : ℕ) → get now.lists q ≡ get old.lists q → IsLive old q → IsLive now q
  live-get old now q e live = ap (λ (o : Option (List T)). is_some o) e ∙ live

  -- values were added at the end of a list, and then all of another
  pub joined : (old mid now : Lists T) (l q : ℕ) (xs : List T) → q ≢ l → mid.lists ≡ with_list old l (list_at old l ++ xs)
      → now.lists ≡ insert (with_list mid l (list_at mid l ++ list_at mid q)) q [] → now.lists ≡ insert (with_list old l (list_at old l ++ (xs ++ list_at old q))) q []
  joined old mid now l q xs ne e f =
      f
      ∙ ap (λ m. insert (insert m l (list_at mid l ++ list_at mid q)) q []) e
      ∙ ap (λ m. insert m q []) (insert-twice old.lists l (list_at old l ++ xs) (list_at mid l ++ list_at mid q))
      ∙ ap (λ t. insert (with_list old l (t ++ list_at mid q)) q []) (list_same old mid l (list_at old l ++ xs) e)
      ∙ ap (λ t. insert (with_list old l ((list_at old l ++ xs) ++ t)) q []) (list_other old mid l (list_at old l ++ xs) q ne e)
      ∙ ap (λ t. insert (with_list old l t) q []) (append_assoc (list_at old l) xs (list_at old q))

  closed-map : (m : FinMap nat_cmp (List T)) (front l : ℕ) (all : List T) → front ≢ l → remove (insert (insert m front []) l all) front ≡ remove (insert m l all) front
  closed-map m front l all apart = same_from_get _ _ (λ q. grind (arith, list_steps))

  -- two joins put all of one list before another, and then it was closed
  pub brought-before : (a b c d : Lists T) (front l : ℕ) → front ≢ l → b.lists ≡ insert (with_list a front (list_at a front ++ list_at a l)) l []
      → c.lists ≡ insert (with_list b l (list_at b l ++ list_at b front)) front [] → d.lists ≡ remove c.lists front → d.lists ≡ remove (with_list a l (list_at a front ++ list_at a l)) front
  brought-before a b c d front l apart e f g =
      g ∙ ap (λ m. remove m front) (joined-lists a b c front l apart e f) ∙ closed-map a.lists front l (list_at a front ++ list_at a l) apart

  -- a helper list is another than those that live
  pub helper-apart : (a : Lists T) (h l : ℕ) → get a.lists h ≡ None → IsLive a l → h ≢ l
  helper-apart a h l fresh live same =
      true≢false (sym live ∙ ap (λ (q : ℕ). is_some (get a.lists q)) (sym same) ∙ ap (λ (o : Option (List T)). is_some o) fresh)

  helped-map : (m : FinMap nat_cmp (List T)) (h l : ℕ) (xs ys all : List T) → h ≢ l → get m h ≡ None → remove (insert (insert (insert m h xs) h ys) l all) h ≡ insert m l all
  helped-map m h l xs ys all apart fresh = same_from_get _ _ (λ q. grind (arith, list_steps))

  -- a list was opened, filled, brought before another and closed
  pub helped : (a b c d : Lists T) (h l : ℕ) (xs : List T) → get a.lists h ≡ None → IsLive a l → b.lists ≡ with_list a h [] → c.lists ≡ with_list b h (list_at b h ++ xs)
      → d.lists ≡ remove (with_list c l (list_at c h ++ list_at c l)) h → d.lists ≡ with_list a l (xs ++ list_at a l)
  helped a b c d h l xs fresh live e f g =
      let apart = helper-apart a h l fresh live in
      let filled : list_at c h ≡ xs = list_same b c h (list_at b h ++ xs) f ∙ ap (λ (ys : List T). ys ++ xs) (list_same a b h [] e) in
      let other : list_at c l ≡ list_at a l = list_other b c h (list_at b h ++ xs) l (λ s. apart (sym s)) f ∙ list_other a b h [] l (λ s. apart (sym s)) e in
      g
      ∙ (λ i. remove (insert c.lists l (filled i ++ other i)) h)
      ∙ ap (λ m. remove (insert m l (xs ++ list_at a l)) h) (f ∙ ap (λ m. insert m h (list_at b h ++ xs)) e)
      ∙ helped-map a.lists h l [] (list_at b h ++ xs) (xs ++ list_at a l) apart fresh
