-- What each call leaves of the pool.
use Rattle.std.proofs.Common.{◌≡◌, ◌≢◌, inl, inr, ℕ, ◌+◌, ◌<◌, List, [], ◌∷◌, ◌++◌, length, map, take, drop, replicate, Bool, true, false, Some, slice_get, refl, sym, ap, ◌∙◌, subst, arith}
use Rattle.std.specs.Prelude.{ℤ, pos, ◌+ℤ◌, ◌-ℤ◌, slice_set}
use Rattle.std.proofs.Math.ListN.{length-set}
use Rattle.std.proofs.lemmas.Int.{ints}
use Rattle.std.proofs.lemmas.List.{map-append, length-append, length-map}
use Rattle.std.proofs.lemmas.Option.{slice_get_within, same_Some}
use Rattle.std.specs.FinMap.{insert}
use Rattle.tb_pool.specs.Lists.{Lists, with_list, list_at}
use Rattle.tb_float.specs.declared.Part.{Part}
use Rattle.tb_float.specs.declared.Part.TheVariants as parts
use Rattle.tb_float.specs.declared.Entry.{Entry}
use Rattle.tb_float.specs.declared.Entry.TheVariants as entries
use Rattle.tb_node.specs.declared.Float.{Float}
use Rattle.tb_float.specs.declared.shelves.Shelves.{Shelves}
use Rattle.tb_float.specs.declared.by_part.ByPart.{ByPart}
use Rattle.tb_float.specs.Slots.{SlotView}
use Rattle.tb_float.specs.Lists.{IsWaiting, live_count, entries_of, floats_of, float_entries, float_before, floats_among, without_place}
use Rattle.tb_float.specs.Pool.{FloatPool, marks_of, with_marks_of, without_marks, joined_before, moved_float, with_float_at, flagged, with_mark, with_flags, with_current, with_floats_after, with_floats_before, without_entry, without_entries}
use Rattle.tb_float.specs.Ranges.{IsSizedEntry, IsRoom, IsExtent}
use Rattle.tb_float.specs.Rooms.{total_height}
use Rattle.tb_float.specs.ByPart.{of_part, with_part}
use Rattle.tb_float.specs.Shelves.{shelf_of, slots_of, seen_pool, seen_lists, entries_in, floats_in, marks_in, slot_count, is_float, unmarked_slot, flagged_slots, IsSlotOf, AreSlotsOf, IsStored}
use Rattle.tb_float.proofs.ListLemmas.{length-without_place}
use Rattle.tb_float.proofs.PartLemmas.{put, put-other, with_part-same}
use Rattle.tb_float.proofs.SlotLemmas.{slot-of_entry, bare-shown, slots-unmarked, slots-flagged, entries-flagged, marks-flagged, slots-set, floats_in-unmarked, marks-unmarked, marks-none, total-set, entries-set_same, length-floats_in, slots-append, slots-without, slot-there, slots-bare, entries-bare, marks-bare, AreBare, floats_in-append, total_height-append, total-without}
use Rattle.tb_float.proofs.WaitingLemmas.{HasAllMarks, all-marked, waiting-floats, waiting_cases, waiting-marks, marks-with, lists-marked, contents-marks}
use Rattle.tb_float.proofs.MarkLemmas.{length-replicate_false}
use Rattle.tb_float.proofs.SoundLemmas.{written, Written, entries_of-seen, floats_of-seen, marks_of-seen, seen-put, seen-set, marks_in-set, map-set, count-put, live_count-seen, seen-after, seen-before, seen-without, seen-emptied}

-- a pool that is stored, and what is seen of it
pub record IsPool (new : Lists SlotView) (sh : Shelves) (h : ByPart ℤ) (size : ℕ) (v : FloatPool) : Type 0 where
  pub stored : IsStored new sh h size
  pub seen : seen_pool (slots_of new sh) size ≡ v

-- an entry came to the end of the current list
pub put-in : (store new : Lists SlotView) (sh : Shelves) (h : ByPart ℤ) (size : ℕ) (e : Entry) → IsStored store sh h size → IsSizedEntry e → live_count (seen_lists (slots_of store sh)) < size
    → new.lists ≡ with_list store sh.lists.current (list_at store sh.lists.current ++ record { entry = e; marked = false } ∷ []) → new.spare + 1 ≡ store.spare
    → IsPool new sh (with_part parts.Current (of_part h parts.Current +ℤ total_height (float_before e [])) h) size (with_current (e ∷ []) (seen_pool (slots_of store sh) size))
put-in store new sh h size e k sized room pushed spare =
    let at = slots_of store sh in
    let s : SlotView = record { entry = e; marked = false } in
    let is : IsSlotOf parts.Current s = record { sized = sized; float = λ n. cc; unmarked = λ n. refl } in
    let slots = slots-append parts.Current (at parts.Current) (s ∷ []) (k.sound.slots parts.Current) (is, tt) in
    let sum : of_part h parts.Current +ℤ total_height (float_before e []) ≡ total_height (floats_in (at parts.Current ++ s ∷ [])) =
    ap (λ z. z +ℤ total_height (float_before e [])) (k.sound.heights_are parts.Current) ∙ sym (ap total_height (floats_in-append (at parts.Current) (s ∷ [])) ∙ total_height-append (floats_in (at parts.Current)) (float_before e [])) in
    let live = live_count-seen at k.sound.slots in
    let longer = length-append (at parts.Current) (s ∷ []) in
    let w = written store new sh h size parts.Current (at parts.Current ++ s ∷ []) (of_part h parts.Current +ℤ total_height (float_before e [])) k pushed slots sum (omega arith) (omega arith) in
    record {
      stored = w.stored;
      seen = ap (λ a. seen_pool a size) w.slots ∙ (λ i. record (seen_pool at size) { lists = record (seen_lists at) { current = map-append (λ (r : SlotView). r.entry) (at parts.Current) (s ∷ []) i } });
    }

-- a slot that is a float without a mark may be anywhere
bare-slot : (p q : Part) (s : SlotView) → IsSlotOf p s → is_float s.entry ≡ true → IsSlotOf q (unmarked_slot s)
bare-slot p q s h is = record { sized = h.sized; float = λ n. is; unmarked = λ n. refl }

-- the sums after one fell and another rose
pub sums-moved : (h h1 h2 : ByPart ℤ) (from to : Part) (r z : ℤ) → r ≡ z → h1 ≡ with_part from (of_part h from -ℤ r) h → h2 ≡ with_part to (of_part h1 to +ℤ r) h1
    → h2 ≡ with_part to (of_part (with_part from (of_part h from -ℤ z) h) to +ℤ z) (with_part from (of_part h from -ℤ z) h)
sums-moved h h1 h2 from to r z same e1 e2 =
    e2 ∙ ap (λ g. with_part to (of_part g to +ℤ r) g) e1
    ∙ ap (λ w. with_part to (of_part (with_part from (of_part h from -ℤ w) h) to +ℤ w) (with_part from (of_part h from -ℤ w) h)) same

-- a float went from its place to the end of another list, and its height from one sum to the other
pub moved-to : (store new : Lists SlotView) (sh : Shelves) (h g1 g2 : ByPart ℤ) (size : ℕ) (from to : Part) (k : ℕ) (s shown : SlotView) (f : Float) (r : ℤ) → IsStored store sh h size → from ≢ to
    → slice_get (slots_of store sh from) k ≡ Some s → s.entry ≡ entries.Float f
    → new.lists ≡ insert (with_list store (shelf_of sh from) (without_place k (slots_of store sh from))) (shelf_of sh to) (slots_of store sh to ++ unmarked_slot s ∷ []) → new.spare ≡ store.spare
    → r ≡ total_height (float_before shown.entry []) → shown ≡ s → g1 ≡ with_part from (of_part h from -ℤ r) h → g2 ≡ with_part to (of_part g1 to +ℤ r) g1
    → IsPool new sh g2 size (moved_float from k to f (seen_pool (slots_of store sh) size))
moved-to store new sh h g1 g2 size from to k s shown f r stored apart there it e spare height same lowered raised =
    let at = slots_of store sh in
    let xs = without_place k (at from) in
    let u = unmarked_slot s in
    let is = ap is_float it in
    let z = total_height (float_before s.entry []) in
    let h1 = with_part from (of_part h from -ℤ z) h in
    let t : Lists SlotView = record { lists = with_list store (shelf_of sh from) xs; spare = store.spare + 1 } in
    let within = slice_get_within (at from) k s there in
    let shorter = length-without_place k (at from) within in
    let sum1 : of_part h from -ℤ z ≡ total_height (floats_in xs) = ap (λ w. w -ℤ z) (stored.sound.heights_are from) ∙ sym (total-without k (at from) s there) in
    let places = stored.places in
    let w1 = written store t sh h size from xs (of_part h from -ℤ z) stored refl (slots-without from k (at from) (stored.sound.slots from)) sum1 (omega arith) (omega arith) in
    let at1 = put from xs at in
    let to_at : slots_of t sh to ≡ at to = ap (λ (f : Part → List SlotView). f to) w1.slots ∙ put-other from to xs at (λ q. apart (sym q)) in
    let ys = at to ++ u ∷ [] in
    let slots2 = slots-append to (at to) (u ∷ []) (stored.sound.slots to) (bare-slot from to s (slot-there from k (at from) s (stored.sound.slots from) there) is, tt) in
    let sum_to : of_part h1 to ≡ total_height (floats_in (at to)) = w1.stored.sound.heights_are to ∙ ap (λ ss. total_height (floats_in ss)) to_at in
    let sum2 : of_part h1 to +ℤ z ≡ total_height (floats_in ys) =
    ap (λ w. w +ℤ z) sum_to ∙ sym (ap total_height (floats_in-append (at to) (u ∷ [])) ∙ total_height-append (floats_in (at to)) (float_before s.entry [])) in
    let counted = ap slot_count w1.slots in
    let counted1 = count-put from at xs in
    let longer = length-append (at to) (u ∷ []) in
    let same_length = ap length to_at in
    let w2 = written t new sh h1 size to ys (of_part h1 to +ℤ z) w1.stored e slots2 sum2 (omega arith) (omega arith) in
    let after : slots_of new sh ≡ put to (at1 to ++ u ∷ []) at1 = w2.slots ∙ ap (put to ys) w1.slots ∙ ap (λ ss. put to (ss ++ u ∷ []) at1) (sym (put-other from to xs at (λ q. apart (sym q)))) in
    record {
      stored = subst (λ (g : ByPart ℤ). IsStored new sh g size) (sym (sums-moved h g1 g2 from to r z (height ∙ ap (λ u. total_height (float_before u.entry [])) same) lowered raised)) w2.stored;
      seen = ap (λ a. seen_pool a size) after
          ∙ seen-after to at1 (u ∷ []) size (entries-bare (u ∷ []) (is, refl, tt)) (marks-bare (u ∷ []) (is, refl, tt))
          ∙ ap (with_floats_after to (float_before s.entry [])) (seen-without from at k size (stored.sound.slots from))
          ∙ ap (λ d. with_floats_after to (float_before d []) (without_entry from k (seen_pool at size))) it;
    }

-- all floats of a list went before those of another
pub joined-front : (store new : Lists SlotView) (sh : Shelves) (h : ByPart ℤ) (size : ℕ) (from to : Part) → IsStored store sh h size → from ≢ to → AreBare (slots_of store sh from)
    → new.lists ≡ insert (with_list store (shelf_of sh from) []) (shelf_of sh to) (slots_of store sh from ++ slots_of store sh to) → new.spare ≡ store.spare
    → IsPool new sh (with_part to (of_part (with_part from (of_part h from -ℤ of_part h from) h) to +ℤ of_part h from) (with_part from (of_part h from -ℤ of_part h from) h)) size
    (with_floats_before to (floats_in (slots_of store sh from)) (without_entries from (seen_pool (slots_of store sh) size)))
joined-front store new sh h size from to stored apart bare e spare =
    let at = slots_of store sh in
    let z = of_part h from in
    let h1 = with_part from (z -ℤ z) h in
    let t : Lists SlotView = record { lists = with_list store (shelf_of sh from) []; spare = store.spare + length (at from) } in
    let places = stored.places in
    let w1 = written store t sh h size from [] (z -ℤ z) stored refl tt (omega (arith, ints)) (omega arith) (omega arith) in
    let at1 = put from [] at in
    let to_at : slots_of t sh to ≡ at to = ap (λ (f : Part → List SlotView). f to) w1.slots ∙ put-other from to [] at (λ q. apart (sym q)) in
    let ys = at from ++ at to in
    let slots2 = slots-append to (at from) (at to) (slots-bare from to (at from) (stored.sound.slots from) bare) (stored.sound.slots to) in
    let sum_to : of_part h1 to ≡ total_height (floats_in (at to)) = w1.stored.sound.heights_are to ∙ ap (λ ss. total_height (floats_in ss)) to_at in
    let joined = ap total_height (floats_in-append (at from) (at to)) ∙ total_height-append (floats_in (at from)) (floats_in (at to)) in
    let sum2 : of_part h1 to +ℤ z ≡ total_height (floats_in ys) = omega (arith, ints, sum_to, stored.sound.heights_are from, joined) in
    let counted = ap slot_count w1.slots in
    let counted1 = count-put from at [] in
    let longer = length-append (at from) (at to) in
    let same_length = ap length to_at in
    let w2 = written t new sh h1 size to ys (of_part h1 to +ℤ z) w1.stored e slots2 sum2 (omega arith) (omega arith) in
    let after : slots_of new sh ≡ put to (at from ++ at1 to) at1 = w2.slots ∙ ap (put to ys) w1.slots ∙ ap (λ ss. put to (at from ++ ss) at1) (sym (put-other from to [] at (λ q. apart (sym q)))) in
    record {
      stored = w2.stored;
      seen = ap (λ a. seen_pool a size) after
          ∙ seen-before to at1 (at from) size (entries-bare (at from) bare) (marks-bare (at from) bare)
          ∙ ap (with_floats_before to (floats_in (at from))) (seen-emptied from at size);
    }

-- the entry at a place has left the pool, and its height the sum of its list
pub taken-out : (store new : Lists SlotView) (sh : Shelves) (h g : ByPart ℤ) (size : ℕ) (p : Part) (k : ℕ) (s shown : SlotView) (r : ℤ) → IsStored store sh h size
    → slice_get (slots_of store sh p) k ≡ Some s → new.lists ≡ with_list store (shelf_of sh p) (without_place k (slots_of store sh p)) → new.spare ≡ store.spare + 1
    → r ≡ total_height (float_before shown.entry []) → shown ≡ s → g ≡ with_part p (of_part h p -ℤ r) h → IsPool new sh g size (without_entry p k (seen_pool (slots_of store sh) size))
taken-out store new sh h g size p k s shown r stored there e spare height same lowered =
    let at = slots_of store sh in
    let xs = without_place k (at p) in
    let z = total_height (float_before s.entry []) in
    let within = slice_get_within (at p) k s there in
    let shorter = length-without_place k (at p) within in
    let sum : of_part h p -ℤ z ≡ total_height (floats_in xs) = ap (λ w. w -ℤ z) (stored.sound.heights_are p) ∙ sym (total-without k (at p) s there) in
    let places = stored.places in
    let w = written store new sh h size p xs (of_part h p -ℤ z) stored e (slots-without p k (at p) (stored.sound.slots p)) sum (omega arith) (omega arith) in
    record {
      stored = subst (λ (f : ByPart ℤ). IsStored new sh f size) (sym (lowered ∙ ap (λ y. with_part p (of_part h p -ℤ y) h) (height ∙ ap (λ u. total_height (float_before u.entry [])) same))) w.stored;
      seen = ap (λ a. seen_pool a size) w.slots ∙ seen-without p at k size (stored.sound.slots p);
    }

-- a list was written with as many slots, whose heights are the same
pub rewritten : (store new : Lists SlotView) (sh : Shelves) (h : ByPart ℤ) (size : ℕ) (p : Part) (xs : List SlotView) → IsStored store sh h size
    → new.lists ≡ with_list store (shelf_of sh p) xs → new.spare ≡ store.spare → AreSlotsOf p xs → length xs ≡ length (slots_of store sh p)
    → total_height (floats_in xs) ≡ total_height (floats_in (slots_of store sh p)) → Written new sh h size (put p xs (slots_of store sh))
rewritten store new sh h size p xs stored e spare slots same_length same_sum =
    let places = stored.places in
    subst (λ (g : ByPart ℤ). Written new sh g size (put p xs (slots_of store sh))) (with_part-same p h)
    (written store new sh h size p xs (of_part h p) stored e slots (stored.sound.heights_are p ∙ sym same_sum) (omega arith) (omega arith))

-- the float that is seen at a place is there
pub float-there : (at : Part → List SlotView) (p : Part) (k : ℕ) (f : Float) → AreSlotsOf p (at p) → slice_get (entries_of p (seen_lists at)) k ≡ Some (entries.Float f)
    → (s : SlotView) × (slice_get (at p) k ≡ Some s) × (s.entry ≡ entries.Float f)
float-there at p k f h e = slot-of_entry (at p) k (entries.Float f) (sym (ap (λ es. slice_get es k) (entries_of-seen p at h)) ∙ e)

-- an entry adds a room to a sum
entry-is_room : (e : Entry) → IsSizedEntry e → IsRoom (total_height (float_before e []))
entry-is_room (entries.Float f) h = let low = h.low in let high = h.high in record { low = omega (arith, ints); high = omega (arith, ints) }
entry-is_room (entries.Left m) h = record { low = omega (arith, ints); high = omega (arith, ints) }
entry-is_room (entries.Right m) h = record { low = omega (arith, ints); high = omega (arith, ints) }

-- so does the one at a place of a list
pub room-there : (store : Lists SlotView) (sh : Shelves) (h : ByPart ℤ) (size : ℕ) (p : Part) (k : ℕ) (s shown : SlotView) (r : ℤ) → IsStored store sh h size → slice_get (slots_of store sh p) k ≡ Some s
    → r ≡ total_height (float_before shown.entry []) → shown ≡ s → IsRoom r
room-there store sh h size p k s shown r stored there height same = subst IsRoom (sym (height ∙ ap (λ u. total_height (float_before u.entry [])) same)) (entry-is_room s.entry (slot-there p k (slots_of store sh p) s (stored.sound.slots p) there).sized)

-- the slot at a place holds the float that is seen there
pub float-is : (at : Part → List SlotView) (p : Part) (k : ℕ) (f : Float) (s : SlotView) → AreSlotsOf p (at p) → slice_get (entries_of p (seen_lists at)) k ≡ Some (entries.Float f) → slice_get (at p) k ≡ Some s → s.entry ≡ entries.Float f
float-is at p k f s h e got =
    let there = float-there at p k f h e in
    ap (λ r. r.entry) (same_Some s there.0 (sym got ∙ there.1)) ∙ there.2

-- each float that waits has its mark
pub marks-shown : (p : Part) (at : Part → List SlotView) (n : ℕ) → IsWaiting p → AreSlotsOf p (at p) → length (marks_of p (seen_pool at n)) ≡ length (floats_of p (seen_lists at))
marks-shown p at n waits h =
    ap length (marks_of-seen p at n waits) ∙ length-map (at p) (λ s. s.marked) ∙ sym (length-floats_in p (at p) (waiting-floats p waits) h) ∙ ap length (sym (floats_of-seen p at))

pub all-marks : (at : Part → List SlotView) (n : ℕ) → ((p : Part) → AreSlotsOf p (at p)) → HasAllMarks (seen_pool at n)
all-marks at n h = all-marked (seen_pool at n) (λ p waits. marks-shown p at n waits (h p))

-- ---- marks that were taken away

-- what joins another list loses its marks, whether they were taken away before or not
pub joined-without_marks : (from to : Part) (v : FloatPool) → joined_before from to (without_marks from v) ≡ joined_before from to v
joined-without_marks parts.Current to v = refl
joined-without_marks from to v = refl

marks-replicated : (ms : List Bool) (n : ℕ) → ms ≡ replicate n false → ms ≡ replicate (length ms) false
marks-replicated ms n e = let same : length ms ≡ n = ap length e ∙ length-replicate_false n in e ∙ ap (λ m. replicate m false) (sym same)

marks-gone : (p : Part) (at : Part → List SlotView) (n : ℕ) (v : FloatPool) → AreSlotsOf p (at p) → seen_pool at n ≡ without_marks p v → marks_in (at p) ≡ replicate (length (at p)) false
marks-gone p at n v h e = elim (waiting_cases p) [
  | inl is ↦ marks-replicated (marks_in (at p)) (length (marks_of p v)) (sym (marks_of-seen p at n is) ∙ ap (marks_of p) e ∙ marks-with p is _ v) ∙ ap (λ m. replicate m false) (length-map (at p) (λ s. s.marked))
  | inr no_marks ↦ marks-none p (at p) no_marks h
]

-- the slots of a list that shows floats alone and has lost its marks are bare
pub bare-list : (p : Part) (at : Part → List SlotView) (n : ℕ) (v : FloatPool) → AreSlotsOf p (at p) → seen_pool at n ≡ without_marks p v → entries_of p v.lists ≡ float_entries (floats_of p v.lists) → AreBare (at p)
bare-list p at n v h seen floats =
    let lists : seen_lists at ≡ v.lists = ap (λ w. w.lists) seen ∙ lists-marked p _ v in
    let ents : entries_in (at p) ≡ float_entries (floats_in (at p)) =
    sym (entries_of-seen p at h) ∙ ap (entries_of p) lists ∙ floats ∙ ap (λ l. float_entries (floats_of p l)) (sym lists) ∙ ap float_entries (floats_of-seen p at) in
    bare-shown (at p) ents (marks-gone p at n v h seen)

-- the marks of a list in which floats wait were taken away
pub unmarked-store : (store new : Lists SlotView) (sh : Shelves) (h : ByPart ℤ) (size : ℕ) (p : Part) → IsWaiting p → IsStored store sh h size
    → new.lists ≡ with_list store (shelf_of sh p) (map unmarked_slot (slots_of store sh p)) → new.spare ≡ store.spare → IsPool new sh h size (without_marks p (seen_pool (slots_of store sh) size))
unmarked-store store new sh h size p is stored e spare =
    let at = slots_of store sh in
    let xs = map unmarked_slot (at p) in
    let w = rewritten store new sh h size p xs stored e spare (slots-unmarked p (at p) (stored.sound.slots p)) (length-map (at p) unmarked_slot) (ap total_height (floats_in-unmarked (at p))) in
    let marks = marks-unmarked (at p) ∙ ap (λ ms. replicate (length ms) false) (sym (marks_of-seen p at size is)) in
    record {
      stored = w.stored;
      seen = ap (λ a. seen_pool a size) w.slots ∙ seen-put p at xs size
          ∙ contents-marks p is (entries_in xs) (floats_in xs) (marks_in xs) (seen_pool at size) (floats_in-unmarked (at p) ∙ sym (floats_of-seen p at))
          ∙ ap (λ ms. with_marks_of p ms (seen_pool at size)) marks;
    }

-- ---- another entry at a place

pub without-first : (ss : List SlotView) → without_place 0 ss ≡ drop 1 ss
without-first [] = refl
without-first (s ∷ ss) = refl

-- a float's places were set
pub places-set : (store new : Lists SlotView) (sh : Shelves) (h : ByPart ℤ) (size : ℕ) (p : Part) (k : ℕ) (s : SlotView) (f g : Float) → IsStored store sh h size
    → slice_get (slots_of store sh p) k ≡ Some s → s.entry ≡ entries.Float f → g.height ≡ f.height
    → new.lists ≡ with_list store (shelf_of sh p) (slice_set (slots_of store sh p) k (record { entry = entries.Float g; marked = s.marked })) → new.spare ≡ store.spare
    → IsPool new sh h size (with_float_at p k g (seen_pool (slots_of store sh) size))
places-set store new sh h size p k s f g stored there is same e spare =
    let at = slots_of store sh in
    let u : SlotView = record { entry = entries.Float g; marked = s.marked } in
    let slots = stored.sound.slots p in
    let old = slot-there p k (at p) s slots there in
    let sized : IsSizedEntry s.entry = old.sized in
    let tall : IsExtent f.height = subst IsSizedEntry is sized in
    let new_slot : IsSlotOf p u = record { sized = subst IsExtent (sym same) tall; float = λ n. refl; unmarked = old.unmarked } in
    let sum : total_height (float_before (entries.Float g) []) ≡ total_height (float_before s.entry []) = ap (λ z. z +ℤ pos 0) same ∙ ap (λ d. total_height (float_before d [])) (sym is) in
    let w = rewritten store new sh h size p (slice_set (at p) k u) stored e spare (slots-set p k (at p) u slots new_slot) (length-set (at p) k u) (total-set k (at p) s (entries.Float g) s.marked there sum) in
    record {
      stored = w.stored;
      seen = ap (λ a. seen_pool a size) w.slots ∙ seen-set p at k g s.marked size slots (marks_in-set k (at p) s (entries.Float g) there);
    }

-- a float that waits was marked
pub mark-set : (store new : Lists SlotView) (sh : Shelves) (h : ByPart ℤ) (size : ℕ) (p : Part) (k : ℕ) (s : SlotView) → IsWaiting p → IsStored store sh h size
    → slice_get (slots_of store sh p) k ≡ Some s
    → new.lists ≡ with_list store (shelf_of sh p) (slice_set (slots_of store sh p) k (record { entry = s.entry; marked = true })) → new.spare ≡ store.spare
    → IsPool new sh h size (with_mark p k (seen_pool (slots_of store sh) size))
mark-set store new sh h size p k s is stored there e spare =
    let at = slots_of store sh in
    let u : SlotView = record { entry = s.entry; marked = true } in
    let slots = stored.sound.slots p in
    let old = slot-there p k (at p) s slots there in
    let waits = waiting-marks p is in
    let new_slot : IsSlotOf p u = record { sized = old.sized; float = old.float; unmarked = λ n. cc } in
    let same = entries-set_same k (at p) s true there in
    let xs = slice_set (at p) k u in
    let w = rewritten store new sh h size p xs stored e spare (slots-set p k (at p) u slots new_slot) (length-set (at p) k u) (total-set k (at p) s s.entry true there refl) in
    let marks = map-set {X = SlotView} (λ r. r.marked) k (at p) u ∙ ap (λ ms. slice_set ms k true) (sym (marks_of-seen p at size is)) in
    record {
      stored = w.stored;
      seen = ap (λ a. seen_pool a size) w.slots ∙ seen-put p at xs size
          ∙ contents-marks p is (entries_in xs) (floats_in xs) (marks_in xs) (seen_pool at size) (ap floats_among same ∙ sym (floats_of-seen p at))
          ∙ ap (λ ms. with_marks_of p ms (seen_pool at size)) marks;
    }

-- floats that wait were marked, from a place on
pub flags-set : (store new : Lists SlotView) (sh : Shelves) (h : ByPart ℤ) (size : ℕ) (p : Part) (k : ℕ) (bs : List Bool) → IsWaiting p → IsStored store sh h size
    → new.lists ≡ with_list store (shelf_of sh p) (take k (slots_of store sh p) ++ flagged_slots bs (drop k (slots_of store sh p))) → new.spare ≡ store.spare
    → IsPool new sh h size (with_flags p k bs (seen_pool (slots_of store sh) size))
flags-set store new sh h size p k bs is stored e spare =
    let at = slots_of store sh in
    let xs = take k (at p) ++ flagged_slots bs (drop k (at p)) in
    let same = entries-flagged k bs (at p) in
    let many : length xs ≡ length (at p) = sym (length-map xs (λ s. s.entry)) ∙ ap length same ∙ length-map (at p) (λ s. s.entry) in
    let w = rewritten store new sh h size p xs stored e spare (slots-flagged p (waiting-marks p is) k bs (at p) (stored.sound.slots p)) many (ap (λ es. total_height (floats_among es)) same) in
    let marks = marks-flagged k bs (at p) ∙ ap (λ ms. take k ms ++ flagged bs (drop k ms)) (sym (marks_of-seen p at size is)) in
    record {
      stored = w.stored;
      seen = ap (λ a. seen_pool a size) w.slots ∙ seen-put p at xs size
          ∙ contents-marks p is (entries_in xs) (floats_in xs) (marks_in xs) (seen_pool at size) (ap floats_among same ∙ sym (floats_of-seen p at))
          ∙ ap (λ ms. with_marks_of p ms (seen_pool at size)) marks;
    }

pub same-float : (f g : Float) → entries.Float f ≡ entries.Float g → f ≡ g
same-float f g e = cc
