use Rattle.std.proofs.Common.{◌≡◌, sym, subst, Some, FitsSigned, w64, rules}
use Rattle.std.specs.List.{slice_get}
use Rattle.std.proofs.lemmas.Int.{to_z-of_z}
use Rattle.tb_area.specs.Area.{current_place}
use Rattle.tb_float.specs.declared.Entry.TheVariants as entries
use Rattle.tb_float.specs.Ranges.{AreFloatParams}
use Rattle.tb_output.specs.Machine.{MachineView}
use Rattle.tb_output.specs.FiringWork.{shows_back, IsCutShort}
use Rattle.tb_output.proofs.FiringWork.ResultLemmas.{ok-map, err-map}
use Rattle.tb_output.proofs.FiringWork.WorkingLemmas.{does-same}
use Rattle.tb_output.proofs.InText.CurrentFirst.{decided-same}
use Rattle.tb_output.proofs.Machine.place_float.Goals.{After-add_current-place}
use Rattle.tb_output.proofs.Machine.place_float.Goals as goal

pub add_current-place-requires-clause-params : goal.add_current-place-requires-clause-params
add_current-place-requires-clause-params c = subst (λ (m : MachineView). AreFloatParams m.params) (sym c.self.view_is) c.requires.machine.params.columns.floats

pub add_current-place-requires-clause-float : goal.add_current-place-requires-clause-float
add_current-place-requires-clause-float c =
    let f = c.args.f.now in
    (f, subst (λ (m : MachineView). slice_get m.pool.lists.current 0 ≡ Some (entries.Float f)) (sym c.self.view_is) c.requires.first)

-- it goes where the routine decides
place_is : (c : After-add_current-place) → (let m = c.args.self.now in c.add_current-place.result ≡ current_place m.params m.pool.lists m.suppress c.args.page_height c.args.f.now)
place_is c =
    let i = c.self.inside in
    let f = c.args.f.now in
    let place = c.add_current-place.result in
    let fits : FitsSigned w64 c.args.page_height = search rules in
    let there : slice_get i.pool.lists.current 0 ≡ Some (entries.Float f) = subst (λ (v : MachineView). slice_get v.pool.lists.current 0 ≡ Some (entries.Float f)) (sym c.self.view_is) c.requires.first in
    let found : place ≡ current_place i.params i.pool.lists i.suppress c.args.page_height f = simp to_z-of_z at (c.add_current-place.ensures.place f there) in
    subst (λ (v : MachineView). place ≡ current_place v.params v.pool.lists v.suppress c.args.page_height f) c.self.view_is found

pub returns-clause-ok : goal.returns-clause-ok
returns-clause-ok c =
    let same = decided-same c.args.back c.args.self.now c.args.store.now c.args.vert c.args.f.now c.args.page_height _ (place_is (goal.at.returns-clause-ok c).After-add_current-place) in
    ok-map c.place_at.result _ _ (does-same _ (shows_back c.args.back c.place_at.new.self c.place_at.new.store) _ _ same) c.place_at.ensures.ok

pub returns-clause-err : goal.returns-clause-err
returns-clause-err c =
    let same = decided-same c.args.back c.args.self.now c.args.store.now c.args.vert c.args.f.now c.args.page_height _ (place_is (goal.at.returns-clause-err c).After-add_current-place) in
    err-map c.place_at.result _ _ (λ e. does-same _ (IsCutShort e c.place_at.new.self c.place_at.new.store) _ _ same) c.place_at.ensures.err
