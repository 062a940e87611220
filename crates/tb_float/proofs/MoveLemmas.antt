-- What moving one value between two lists of a store leaves, and taking one out.
use Rattle.std.proofs.Common.{◌≡◌, ◌≢◌, ℕ, suc, List, [], ◌∷◌, ◌++◌, Some, take, drop, slice_get, slice_set, unwrap_or, sym, ap, ◌∙◌, arith}
use Rattle.std.specs.Ordering.{nat_cmp}
use Rattle.std.specs.FinMap.{FinMap, get, insert}
use Rattle.tb_pool.specs.Lists.{Lists, IsLive, list_at, with_list}
use Rattle.tb_pool.proofs.MapLemmas.{list_steps, same_from_get, get-insert_same}
use Rattle.tb_float.specs.Lists.{without_place}
use Rattle.tb_float.proofs.ListLemmas.{slice_get-drop, slice_get-front, slice_get-one, without_place-parts, slice_set-parts, take-drop, some-list}

-- four lists differ
pub record Differ (from to one rest : ℕ) : Type 0 where
  pub from_to : from ≢ to
  pub from_one : from ≢ one
  pub from_rest : from ≢ rest
  pub to_one : to ≢ one
  pub to_rest : to ≢ rest
  pub one_rest : one ≢ rest

module _ {V : Type 0} where
  -- the value goes through one helper list, and what followed it through the other
  moved-map : (m : FinMap nat_cmp (List V)) (from to one rest : ℕ) (front back ys : List V) (s u : V) → Differ from to one rest → get m one ≡ Some [] → get m rest ≡ Some []
      → insert (insert (insert (insert (insert (insert (insert (insert (insert m from front) one (s ∷ back)) one (s ∷ [])) rest back) one (u ∷ [])) to (ys ++ u ∷ [])) one []) from (front ++ back)) rest []
      ≡ insert (insert m from (front ++ back)) to (ys ++ u ∷ [])
  moved-map m from to one rest front back ys s u d no_one no_rest = same_from_get _ _ (λ q. grind (arith, list_steps))

  list-second : (m : FinMap nat_cmp (List V)) (t : Lists V) (l : ℕ) (xs : List V) → t.lists ≡ insert m l xs → list_at t l ≡ xs
  list-second m t l xs e = ap (λ n. unwrap_or (get n l) []) e ∙ ap (λ o. unwrap_or o []) (get-insert_same m l xs)

  pub record Moved (s0 s5 : Lists V) (from to k : ℕ) (u v : V) : Type 0 where
    pub was : slice_get (list_at s0 from) k ≡ Some u
    pub moved : s5.lists ≡ insert (with_list s0 from (without_place k (list_at s0 from))) to (list_at s0 to ++ v ∷ [])

  pub moved-one : (s0 s1 s2 s3 s4 s5 : Lists V) (from k to one rest : ℕ) (u v : V) → Differ from to one rest → IsLive s0 one → IsLive s0 rest → list_at s0 one ≡ [] → list_at s0 rest ≡ []
      → s1.lists ≡ insert (with_list s0 from (take k (list_at s0 from))) one (drop k (list_at s0 from))
      → s2.lists ≡ insert (with_list s1 one (take 1 (list_at s1 one))) rest (drop 1 (list_at s1 one))
      → slice_get (list_at s2 one) 0 ≡ Some u
      → s3.lists ≡ with_list s2 one (slice_set (list_at s2 one) 0 v)
      → s4.lists ≡ insert (with_list s3 to (list_at s3 to ++ list_at s3 one)) one []
      → s5.lists ≡ insert (with_list s4 from (list_at s4 from ++ list_at s4 rest)) rest []
      → Moved s0 s5 from to k u v
  moved-one s0 s1 s2 s3 s4 s5 from k to one rest u v d one_live rest_live one_empty rest_empty e1 e2 was e3 e4 e5 =
      let xs = list_at s0 from in
      let ys = list_at s0 to in
      let front = take k xs in
      let back = drop (suc k) xs in
      let behind : list_at s1 one ≡ drop k xs = list-second _ s1 one _ e1 in
      let first : list_at s2 one ≡ take 1 (list_at s1 one) = grind (arith, list_steps) in
      let got : slice_get xs k ≡ Some u = slice_get-front k xs u (slice_get-one (drop k xs) u (rw (first, behind) at was)) in
      let parts : drop k xs ≡ u ∷ back = slice_get-drop k xs u got in
      let one1 : list_at s1 one ≡ u ∷ back = behind ∙ parts in
      let one2 : list_at s2 one ≡ u ∷ [] = first ∙ ap (take 1) one1 in
      let f1 : s1.lists ≡ insert (insert s0.lists from front) one (u ∷ back) = e1 ∙ ap (insert (insert s0.lists from front) one) parts in
      let f2 : s2.lists ≡ insert (insert s1.lists one (u ∷ [])) rest back = e2 ∙ ap (λ ts. insert (insert s1.lists one (take 1 ts)) rest (drop 1 ts)) one1 in
      let f3 : s3.lists ≡ insert s2.lists one (v ∷ []) = e3 ∙ ap (λ ts. insert s2.lists one (slice_set ts 0 v)) one2 in
      let to3 : list_at s3 to ≡ ys = grind (arith, list_steps) in
      let one3 : list_at s3 one ≡ v ∷ [] = grind (arith, list_steps) in
      let f4 : s4.lists ≡ insert (insert s3.lists to (ys ++ v ∷ [])) one [] = e4 ∙ ap (λ ts. insert (insert s3.lists to ts) one []) (ap (λ ts. ts ++ list_at s3 one) to3 ∙ ap (λ ts. ys ++ ts) one3) in
      let from4 : list_at s4 from ≡ front = grind (arith, list_steps) in
      let rest4 : list_at s4 rest ≡ back = grind (arith, list_steps) in
      let f5 : s5.lists ≡ insert (insert s4.lists from (front ++ back)) rest [] = e5 ∙ ap (λ ts. insert (insert s4.lists from ts) rest []) (ap (λ ts. ts ++ list_at s4 rest) from4 ∙ ap (λ ts. front ++ ts) rest4) in
      let no_one = some-list (get s0.lists one) one_live ∙ ap Some one_empty in
      let no_rest = some-list (get s0.lists rest) rest_live ∙ ap Some rest_empty in
      let all = moved-map s0.lists from to one rest front back ys u v d no_one no_rest in
      record {
        was = got;
        moved = rw (without_place-parts, f5, f4, f3, f2, f1) all;
      }

  taken-map : (m : FinMap nat_cmp (List V)) (from one : ℕ) (front back : List V) (u : V) → from ≢ one → get m one ≡ Some []
      → insert (insert (insert (insert (insert m from front) one (u ∷ back)) one back) from (front ++ back)) one [] ≡ insert m from (front ++ back)
  taken-map m from one front back u apart no_one = same_from_get _ _ (λ q. grind (arith, list_steps))

  changed-map : (m : FinMap nat_cmp (List V)) (from one : ℕ) (front back new : List V) → from ≢ one → get m one ≡ Some []
      → insert (insert (insert (insert (insert m from front) one back) one new) from (front ++ new)) one [] ≡ insert m from (front ++ new)
  changed-map m from one front back new apart no_one = same_from_get _ _ (λ q. grind (arith, list_steps))

  pub record Taken (s0 s3 : Lists V) (from k : ℕ) (u : V) : Type 0 where
    pub was : slice_get (list_at s0 from) k ≡ Some u
    pub taken : s3.lists ≡ with_list s0 from (without_place k (list_at s0 from))

  pub taken-one : (s0 s1 s2 s3 : Lists V) (from k one : ℕ) (u : V) → from ≢ one → IsLive s0 one → list_at s0 one ≡ []
      → s1.lists ≡ insert (with_list s0 from (take k (list_at s0 from))) one (drop k (list_at s0 from))
      → list_at s1 one ≡ u ∷ drop 1 (list_at s1 one)
      → s2.lists ≡ with_list s1 one (drop 1 (list_at s1 one))
      → s3.lists ≡ insert (with_list s2 from (list_at s2 from ++ list_at s2 one)) one []
      → Taken s0 s3 from k u
  taken-one s0 s1 s2 s3 from k one u apart one_live one_empty e1 popped e2 e3 =
      let xs = list_at s0 from in
      let front = take k xs in
      let back = drop (suc k) xs in
      let behind : list_at s1 one ≡ drop k xs = list-second _ s1 one _ e1 in
      let head : slice_get (list_at s1 one) 0 ≡ Some u = ap (λ ts. slice_get ts 0) popped in
      let got : slice_get xs k ≡ Some u = slice_get-front k xs u (ap (λ ts. slice_get ts 0) (sym behind) ∙ head) in
      let parts : drop k xs ≡ u ∷ back = slice_get-drop k xs u got in
      let one1 : list_at s1 one ≡ u ∷ back = behind ∙ parts in
      let f1 : s1.lists ≡ insert (insert s0.lists from front) one (u ∷ back) = e1 ∙ ap (insert (insert s0.lists from front) one) parts in
      let f2 : s2.lists ≡ insert s1.lists one back = e2 ∙ ap (λ ts. insert s1.lists one (drop 1 ts)) one1 in
      let from2 : list_at s2 from ≡ front = grind (arith, list_steps) in
      let one2 : list_at s2 one ≡ back = grind (arith, list_steps) in
      let f3 : s3.lists ≡ insert (insert s2.lists from (front ++ back)) one [] = e3 ∙ ap (λ ts. insert (insert s2.lists from ts) one []) (ap (λ ts. ts ++ list_at s2 one) from2 ∙ ap (λ ts. front ++ ts) one2) in
      let no_one = some-list (get s0.lists one) one_live ∙ ap Some one_empty in
      record {
        was = got;
        taken = rw (without_place-parts, f3, f2, f1) (taken-map s0.lists from one front back u apart no_one);
      }

  restored-map : (m : FinMap nat_cmp (List V)) (from one : ℕ) (front back : List V) → from ≢ one → get m one ≡ Some [] → get m from ≡ Some (front ++ back)
      → insert (insert (insert (insert m from front) one back) from (front ++ back)) one [] ≡ m
  restored-map m from one front back apart no_one all = same_from_get _ _ (λ q. grind (arith, list_steps))

  -- what was cut off comes back
  pub restored : (s0 s1 s3 : Lists V) (from k one : ℕ) → from ≢ one → IsLive s0 from → IsLive s0 one → list_at s0 one ≡ []
      → s1.lists ≡ insert (with_list s0 from (take k (list_at s0 from))) one (drop k (list_at s0 from))
      → s3.lists ≡ insert (with_list s1 from (list_at s1 from ++ list_at s1 one)) one []
      → s3.lists ≡ s0.lists
  restored s0 s1 s3 from k one apart live one_live one_empty e1 e3 =
      let xs = list_at s0 from in
      let front = take k xs in
      let back = drop k xs in
      let from1 : list_at s1 from ≡ front = grind (arith, list_steps) in
      let one1 : list_at s1 one ≡ back = list-second _ s1 one _ e1 in
      let f3 : s3.lists ≡ insert (insert s1.lists from (front ++ back)) one [] = e3 ∙ ap (λ ts. insert (insert s1.lists from ts) one []) (ap (λ ts. ts ++ list_at s1 one) from1 ∙ ap (λ ts. front ++ ts) one1) in
      let no_one = some-list (get s0.lists one) one_live ∙ ap Some one_empty in
      let all = some-list (get s0.lists from) live ∙ ap Some (sym (take-drop k xs)) in
      rw (f3, e1) (restored-map s0.lists from one front back apart no_one all)

  -- what was cut off comes back changed
  pub changed-behind : (s0 s1 s2 s3 : Lists V) (from k one : ℕ) (new : List V) → from ≢ one → IsLive s0 one → list_at s0 one ≡ []
      → s1.lists ≡ insert (with_list s0 from (take k (list_at s0 from))) one (drop k (list_at s0 from))
      → s2.lists ≡ with_list s1 one new
      → s3.lists ≡ insert (with_list s2 from (list_at s2 from ++ list_at s2 one)) one []
      → s3.lists ≡ with_list s0 from (take k (list_at s0 from) ++ new)
  changed-behind s0 s1 s2 s3 from k one new apart one_live one_empty e1 e2 e3 =
      let front = take k (list_at s0 from) in
      let back = drop k (list_at s0 from) in
      let from2 : list_at s2 from ≡ front = grind (arith, list_steps) in
      let one2 : list_at s2 one ≡ new = grind (arith, list_steps) in
      let f3 : s3.lists ≡ insert (insert s2.lists from (front ++ new)) one [] = e3 ∙ ap (λ ts. insert (insert s2.lists from ts) one []) (ap (λ ts. ts ++ list_at s2 one) from2 ∙ ap (λ ts. front ++ ts) one2) in
      let no_one = some-list (get s0.lists one) one_live ∙ ap Some one_empty in
      rw (f3, e2, e1) (changed-map s0.lists from one front back new apart no_one)

  -- the value at a place is written as the first of what was cut off
  pub marked-one : (s0 s1 s2 s3 : Lists V) (from k one : ℕ) (u w : V) → from ≢ one → IsLive s0 one → list_at s0 one ≡ [] → slice_get (list_at s0 from) k ≡ Some u
      → s1.lists ≡ insert (with_list s0 from (take k (list_at s0 from))) one (drop k (list_at s0 from))
      → (slice_get (list_at s1 one) 0 ≡ Some u → s2.lists ≡ with_list s1 one (slice_set (list_at s1 one) 0 w))
      → s3.lists ≡ insert (with_list s2 from (list_at s2 from ++ list_at s2 one)) one []
      → s3.lists ≡ with_list s0 from (slice_set (list_at s0 from) k w)
  marked-one s0 s1 s2 s3 from k one u w apart one_live one_empty got e1 written e3 =
      let xs = list_at s0 from in
      let back = drop (suc k) xs in
      let one1 : list_at s1 one ≡ u ∷ back = list-second _ s1 one _ e1 ∙ slice_get-drop k xs u got in
      let e2 = written (ap (λ ts. slice_get ts 0) one1) ∙ ap (λ ts. with_list s1 one (slice_set ts 0 w)) one1 in
      rw (slice_set-parts k xs u w got) (changed-behind s0 s1 s2 s3 from k one (w ∷ back) apart one_live one_empty e1 e2 e3)

  joined-map : (m : FinMap nat_cmp (List V)) (front back : ℕ) (all : List V) → front ≢ back
      → insert (insert (insert (insert m front all) back []) back all) front [] ≡ insert (insert m front []) back all
  joined-map m front back all apart = same_from_get _ _ (λ q. grind (arith, list_steps))

  -- two joins put all of one list before another
  pub joined-lists : (s0 s1 s2 : Lists V) (front back : ℕ) → front ≢ back
      → s1.lists ≡ insert (with_list s0 front (list_at s0 front ++ list_at s0 back)) back []
      → s2.lists ≡ insert (with_list s1 back (list_at s1 back ++ list_at s1 front)) front []
      → s2.lists ≡ insert (with_list s0 front []) back (list_at s0 front ++ list_at s0 back)
  joined-lists s0 s1 s2 front back apart e1 e2 =
      let all = list_at s0 front ++ list_at s0 back in
      let back1 : list_at s1 back ≡ [] = list-second _ s1 back _ e1 in
      let front1 : list_at s1 front ≡ all = grind (arith, list_steps) in
      let f2 : s2.lists ≡ insert (insert s1.lists back all) front [] = e2 ∙ ap (λ ts. insert (insert s1.lists back ts) front []) (ap (λ ts. ts ++ list_at s1 front) back1 ∙ front1) in
      rw (f2, e1) (joined-map s0.lists front back all apart)

  -- both lists live on after the first of the joins
  pub live-joined : (s0 s1 : Lists V) (front back q : ℕ) (xs : List V) → s1.lists ≡ insert (with_list s0 front xs) back [] → IsLive s0 q → IsLive s1 q
  live-joined s0 s1 front back q xs e is = grind (arith, list_steps)
