use Rattle.std.proofs.lemmas.Bool.{true≢false}
use Rattle.std.proofs.Common.{ℤ, is_some, ◌≡◌, refl, sym, subst, ◌∙◌, ap, ◌<◌, true, length, map, arith, FitsSigned, w64, to_z, of_z, ◌++◌, ◌∷◌, [], rules}
use Rattle.std.specs.FinMap.{insert}
use Rattle.std.proofs.lemmas.Int.{to_z-of_z}
use Rattle.tb_pool.specs.Lists.{list_at, with_list}
use Rattle.tb_insert.specs.declared.Class.{Class}
use Rattle.tb_insert.specs.AccountEntries.{ComesTo}
use Rattle.tb_insert.specs.Arrival.{ArriveFits}
use Rattle.tb_node.specs.Sums.{size_of}
use Rattle.tb_node.specs.Fit.{shapes}
use Rattle.tb_builder.specs.declared.Builder.{Builder}
use Rattle.tb_builder.specs.Ownership.{Ids, ids_of, has_class, box_ids, inner_ids, nodes_of, IsClassList}
use Rattle.tb_builder.specs.FiredPages.{class_for}
use Rattle.tb_builder.specs.Contents.{contents_of, frozen_of, frozen_with}
use Rattle.tb_builder.specs.Courses.{Underway, IsCourseOf, places_by, IsPageSoFar}
use Rattle.tb_builder.proofs.Ownership.OwnedLemmas.{live-left}
use Rattle.tb_insert.proofs.SettleLemmas.{late_fits}
use Rattle.tb_builder.specs.declared.ClassList.{ClassList}
use Rattle.tb_builder.proofs.LegalPlaces.ClassLemmas.{class_there, list_live, list_fits}
use Rattle.tb_builder.proofs.Turns.MoveLemmas.{written_shift}
use Rattle.tb_builder.proofs.Turns.FillLemmas.{first_is, no_insertion_role}
use Rattle.tb_builder.proofs.Turns.FreezeLemmas.{frozen_course, first_known, comes_to, class_is, meets_fits, plain_insertion, insertion_plain, insertion_shape, insertion_act}
use Rattle.tb_builder.proofs.LegalPlaces.ClassLemmas.{number_is}
use Rattle.tb_builder.proofs.Turns.MeetLemmas.{met}
use Rattle.tb_builder.proofs.Builder.meet.Goals.{After-freeze, After-class_list-own, After-class_made-class, After-list_size-size}
use Rattle.tb_builder.proofs.Builder.meet.Goals as goal

pub unreachable-requires-in_default-role : goal.unreachable-requires-in_default-role
unreachable-requires-in_default-role c =
    let is = c.requires.insertion c.in-Some.n.now (sym c.in-Some.ensures) in
    true≢false (sym is ∙ ap is_some (sym c.role.ensures.insertion ∙ no_insertion_role c.role.result c.in_default-role.not-Insertion))

-- the class of the insertion, and the list of its box
class_of : (c : After-freeze) → (e : ClassList) × IsClassList (ids_of c.args.self.now).boxes c.in-Insertion.i.class e
class_of c =
    let f = first_is (list_at c.args.store.now c.args.self.now.waiting) c.in-Some.n.now (sym c.in-Some.ensures) in
    class_there (ids_of c.args.self.now).boxes c.in-Insertion.i.class
    (first_known (ids_of c.args.self.now) c.args.store.now (contents_of c.args.self.now c.args.store.now).classes c.in-Some.n.now f.0 c.in-Insertion.i c.requires.sound.own.known f.1 (sym c.in-Insertion.ensures.insertion))

pub class_list-own-requires : goal.class_list-own-requires
class_list-own-requires c =
    let f = first_is (list_at c.args.store.now c.args.self.now.waiting) c.in-Some.n.now (sym c.in-Some.ensures) in
    subst (λ (i : Ids). has_class (map (λ e. e.class) i.boxes) c.in-Insertion.i.class ≡ true) (sym c.freeze.ensures.ids)
    (first_known (ids_of c.args.self.now) c.args.store.now (contents_of c.args.self.now c.args.store.now).classes c.in-Some.n.now f.0 c.in-Insertion.i c.requires.sound.own.known f.1 (sym c.in-Insertion.ensures.insertion))

-- the course of the page, once its goal is frozen
course_is : (c : After-freeze) → (let before = contents_of c.args.self.now c.args.store.now in Underway (frozen_of before c.args.ask.now) c.freeze.new.self.course before.page before.waiting)
course_is c =
    let before = contents_of c.args.self.now c.args.store.now in
    frozen_course before c.args.self.now.course c.freeze.new.self.course c.args.ask.now c.args.self.now.frozen refl (subst (λ x. IsPageSoFar c.args.self.now.frozen x c.args.self.now.course before) c.requires.on c.requires.sound.page) c.requires.sound.own.classes c.freeze.ensures.first (λ some. ap (λ (x : Builder). x.course) (c.freeze.ensures.again some))

-- a class as the page has it that is made
abbrev made_class : After-freeze → Class → Class
made_class c class = class_for (frozen_with c.args.self.now.frozen c.args.ask.now) class

-- the class of the insertion is one
class_made : (c : After-class_made-class) → c.class_made-class.result ≡ class_for (frozen_with c.args.self.now.frozen c.args.ask.now) c.class_list-own.result.class
class_made c = c.class_made-class.ensures (frozen_with c.args.self.now.frozen c.args.ask.now) c.freeze.ensures.frozen

-- the list of the insertion's class
own_list : (c : After-class_list-own) → IsClassList (ids_of c.args.self.now).boxes c.in-Insertion.i.class c.class_list-own.result
own_list c = subst (λ (j : Ids). IsClassList j.boxes c.in-Insertion.i.class c.class_list-own.result) c.freeze.ensures.ids c.class_list-own.ensures

-- the size of that list
size_is : (c : After-list_size-size) → to_z w64 (of_z w64 c.list_size-size.result) ≡ size_of (shapes c.args.store.now c.class_list-own.result.list)
size_is c =
    let r : FitsSigned w64 c.list_size-size.result = search rules in
    to_z-of_z w64 c.list_size-size.result r ∙ c.list_size-size.ensures

-- the number of the class is below 256
numbered_below : (c : After-freeze) → c.in-Insertion.i.class < 256
numbered_below c =
    let f = first_is (list_at c.args.store.now c.args.self.now.waiting) c.in-Some.n.now (sym c.in-Some.ensures) in
    let e = class_of c in
    subst (λ k. k < 256) (number_is c.args.store.now (ids_of c.args.self.now).boxes c.in-Insertion.i.class e.0 e.1)
    (class_is (ids_of c.args.self.now) c.args.store.now (contents_of c.args.self.now c.args.store.now) c.args.ask.now c.freeze.new.self.course c.in-Some.n.now f.0 c.in-Insertion.i e.0 c.requires.sound.own refl refl refl refl c.requires.fits f.1 (sym c.in-Insertion.ensures.insertion) e.1 (course_is c))

pub is_late-requires : goal.is_late-requires
is_late-requires c = numbered_below (goal.at.is_late-requires c).After-freeze

pub join_late-requires-clause-most : goal.join_late-requires-clause-most
join_late-requires-clause-most c = numbered_below (goal.at.join_late-requires-clause-most c).After-freeze

pub join_late-requires-clause-fits : goal.join_late-requires-clause-fits
join_late-requires-clause-fits c =
    let at = goal.at.join_late-requires-clause-fits c in
    let f = first_is (list_at c.args.store.now c.args.self.now.waiting) c.in-Some.n.now (sym c.in-Some.ensures) in
    let e = class_of at.After-freeze in
    late_fits c.args.store.now c.freeze.new.self.course.account c.freeze.new.self.course.scan c.in-Insertion.i (made_class at.After-freeze e.0.class) (size_of (shapes c.args.store.now e.0.list)) (c.is_late.ensures c.if-is_late.true)
    (meets_fits (ids_of c.args.self.now) c.args.store.now (contents_of c.args.self.now c.args.store.now) c.args.ask.now c.freeze.new.self.course c.in-Some.n.now f.0 c.in-Insertion.i e.0 c.requires.sound.own refl refl refl refl c.requires.fits f.1 (sym c.in-Insertion.ensures.insertion) e.1 (course_is at.After-freeze))

pub returns-then-is_late : goal.returns-then-is_late
returns-then-is_late c =
    let at = goal.at.returns-then-is_late c in
    let e = class_of at.After-freeze in
    let f = first_is (list_at c.args.store.now c.args.self.now.waiting) c.in-Some.n.now (sym c.in-Some.ensures) in
    let before = contents_of c.args.self.now c.args.store.now in
    let u = course_is at.After-freeze in
    let b = c.args.self.now in
    let s = c.args.store.now in
    let held = list_at s in
    let z = frozen_of before c.args.ask.now in
    let bs = places_by z before.page before.waiting in
    let size = size_of (shapes s e.0.list) in
    let co = comes_to (ids_of b) s before c.args.ask.now c.freeze.new.self.course c.in-Some.n.now f.0 c.in-Insertion.i e.0 c.requires.sound.own refl refl refl refl c.requires.fits f.1 (sym c.in-Insertion.ensures.insertion) e.1 u in
    let index : c.len-index.result ≡ length (list_at s b.page) = c.len-index.ensures ∙ ap (λ (j : Ids). length (list_at s j.page)) c.freeze.ensures.ids in
    let joined = c.join_late.ensures held (made_class at.After-freeze e.0.class) size z before.page bs c.in-Some.n.now.line (number_is s (ids_of b).boxes c.in-Insertion.i.class e.0 e.1) u.course
    (subst (λ k. ComesTo z before.page c.freeze.new.self.course.scan (made_class at.After-freeze e.0.class) size k) (sym index) co) in
    let d : Builder = record c.freeze.new.self { course = c.join_late.new.self } in
    let shifted = c.move_first.ensures.moved c.in-Some.n.now f.0 (ap (λ (j : Ids). list_at s j.waiting) c.freeze.ensures.ids ∙ f.1) ∙ ap (λ (j : Ids). insert (with_list s j.waiting f.0) j.page (list_at s j.page ++ c.in-Some.n.now ∷ [])) c.freeze.ensures.ids in
    met b d s c.move_first.new.self c.args.ask.now c.in-Some.n.now f.0 c.requires.sound (c.freeze.ensures.stopped ∙ c.requires.on) c.freeze.ensures.ids f.1
    (written_shift (ids_of b) s c.move_first.new.self c.in-Some.n.now f.0 c.requires.sound.own f.1 shifted) (omega (arith, c.move_first.ensures.spare)) c.freeze.ensures.opened
    (insertion_shape c.in-Some.n.now c.in-Insertion.i (sym c.in-Insertion.ensures.insertion)) (insertion_act c.in-Some.n.now c.in-Insertion.i (sym c.in-Insertion.ensures.insertion))
    c.freeze.new.self.course (frozen_with b.frozen c.args.ask.now) (insertion_plain held c.in-Some.n.now c.in-Insertion.i (sym c.in-Insertion.ensures.insertion)) c.freeze.ensures.frozen refl u
    (subst (λ m. IsCourseOf z c.join_late.new.self (before.page ++ m ∷ []) bs) (sym (plain_insertion held c.in-Some.n.now c.in-Insertion.i (sym c.in-Insertion.ensures.insertion))) joined)

pub list_size-size-requires-clause-live : goal.list_size-size-requires-clause-live
list_size-size-requires-clause-live c =
    let own = own_list (goal.at.list_size-size-requires-clause-live c).After-class_list-own in
    list_live c.args.store.now (ids_of c.args.self.now).boxes c.in-Insertion.i.class c.class_list-own.result own (live-left c.args.store.now (box_ids (ids_of c.args.self.now).boxes) (inner_ids (nodes_of (ids_of c.args.self.now) c.args.store.now)) c.requires.sound.own.live.1.1.1.1)

pub list_size-size-requires-clause-fits : goal.list_size-size-requires-clause-fits
list_size-size-requires-clause-fits c =
    let own = own_list (goal.at.list_size-size-requires-clause-fits c).After-class_list-own in
    list_fits c.args.store.now (ids_of c.args.self.now).boxes c.in-Insertion.i.class c.class_list-own.result own c.requires.sound.own.void_empty c.requires.fits.boxes

pub join-requires-clause-number : goal.join-requires-clause-number
join-requires-clause-number c =
    let at = goal.at.join-requires-clause-number c in
    ap (λ (x : Class). x.number) (class_made at.After-class_made-class)
    ∙ number_is c.args.store.now (ids_of c.args.self.now).boxes c.in-Insertion.i.class c.class_list-own.result (own_list at.After-class_list-own)

pub join-requires-clause-most : goal.join-requires-clause-most
join-requires-clause-most c =
    let at = goal.at.join-requires-clause-most c in
    let own = own_list at.After-class_list-own in
    let f = first_is (list_at c.args.store.now c.args.self.now.waiting) c.in-Some.n.now (sym c.in-Some.ensures) in
    let before = contents_of c.args.self.now c.args.store.now in
    let u = course_is at.After-freeze in
    subst (λ k. k < 256) (number_is c.args.store.now (ids_of c.args.self.now).boxes c.in-Insertion.i.class c.class_list-own.result own) (class_is (ids_of c.args.self.now) c.args.store.now before c.args.ask.now c.freeze.new.self.course c.in-Some.n.now f.0 c.in-Insertion.i c.class_list-own.result c.requires.sound.own refl refl refl refl c.requires.fits f.1 (sym c.in-Insertion.ensures.insertion) own u)

pub join-requires-clause-fits : goal.join-requires-clause-fits
join-requires-clause-fits c =
    let at = goal.at.join-requires-clause-fits c in
    let own = own_list at.After-class_list-own in
    let f = first_is (list_at c.args.store.now c.args.self.now.waiting) c.in-Some.n.now (sym c.in-Some.ensures) in
    let before = contents_of c.args.self.now c.args.store.now in
    let u = course_is at.After-freeze in
    let size = size_is at.After-list_size-size in
    subst (λ (x : Class × ℤ). ArriveFits c.args.store.now c.freeze.new.self.course.account c.freeze.new.self.course.scan c.in-Insertion.i x.0 x.1) (sym (λ j. (class_made at.After-class_made-class j, size j))) (meets_fits (ids_of c.args.self.now) c.args.store.now before c.args.ask.now c.freeze.new.self.course c.in-Some.n.now f.0 c.in-Insertion.i c.class_list-own.result c.requires.sound.own refl refl refl refl c.requires.fits f.1 (sym c.in-Insertion.ensures.insertion) own u)

pub returns : goal.returns
returns c =
    let at = goal.at.returns c in
    let own = own_list at.After-class_list-own in
    let f = first_is (list_at c.args.store.now c.args.self.now.waiting) c.in-Some.n.now (sym c.in-Some.ensures) in
    let before = contents_of c.args.self.now c.args.store.now in
    let u = course_is at.After-freeze in
    let size = size_is at.After-list_size-size in
    let b = c.args.self.now in
    let s = c.args.store.now in
    let held = list_at s in
    let z = frozen_of before c.args.ask.now in
    let bs = places_by z before.page before.waiting in
    let co = comes_to (ids_of c.args.self.now) c.args.store.now before c.args.ask.now c.freeze.new.self.course c.in-Some.n.now f.0 c.in-Insertion.i c.class_list-own.result c.requires.sound.own refl refl refl refl c.requires.fits f.1 (sym c.in-Insertion.ensures.insertion) own u in
    let index : c.len-index.result ≡ length (list_at s b.page) = c.len-index.ensures ∙ ap (λ (j : Ids). length (list_at s j.page)) c.freeze.ensures.ids in
    let joined = c.join.ensures z before.page bs c.in-Some.n.now.line u.course
    (subst (λ k. ComesTo z before.page c.freeze.new.self.course.scan c.class_made-class.result (to_z w64 (of_z w64 c.list_size-size.result)) k) (sym index)
    (subst (λ (x : Class × ℤ). ComesTo z before.page c.freeze.new.self.course.scan x.0 x.1 (length (list_at s b.page))) (sym (λ j. (class_made at.After-class_made-class j, size j))) co)) in
    let d : Builder = record c.freeze.new.self { course = c.join.new.self } in
    let shifted = c.move_first-2.ensures.moved c.in-Some.n.now f.0 (ap (λ (j : Ids). list_at s j.waiting) c.freeze.ensures.ids ∙ f.1) ∙ ap (λ (j : Ids). insert (with_list s j.waiting f.0) j.page (list_at s j.page ++ c.in-Some.n.now ∷ [])) c.freeze.ensures.ids in
    met b d s c.move_first-2.new.self c.args.ask.now c.in-Some.n.now f.0 c.requires.sound (c.freeze.ensures.stopped ∙ c.requires.on) c.freeze.ensures.ids f.1
    (written_shift (ids_of b) s c.move_first-2.new.self c.in-Some.n.now f.0 c.requires.sound.own f.1 shifted) (omega (arith, c.move_first-2.ensures.spare)) c.freeze.ensures.opened
    (insertion_shape c.in-Some.n.now c.in-Insertion.i (sym c.in-Insertion.ensures.insertion)) (insertion_act c.in-Some.n.now c.in-Insertion.i (sym c.in-Insertion.ensures.insertion))
    c.freeze.new.self.course (frozen_with b.frozen c.args.ask.now) (insertion_plain held c.in-Some.n.now c.in-Insertion.i (sym c.in-Insertion.ensures.insertion)) c.freeze.ensures.frozen refl u
    (subst (λ m. IsCourseOf z c.join.new.self (before.page ++ m ∷ []) bs) (sym (plain_insertion held c.in-Some.n.now c.in-Insertion.i (sym c.in-Insertion.ensures.insertion))) joined)
