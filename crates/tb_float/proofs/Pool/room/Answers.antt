use Rattle.std.proofs.Common.{◌∙◌, ap, sym, ◌-ℤ◌, FitsSigned, w64, rules}
use Rattle.std.proofs.lemmas.Int.{to_z-of_z}
use Rattle.tb_scaled.specs.Scaled.{fraction_of}
use Rattle.tb_float.specs.Lists.{floats_of}
use Rattle.tb_float.specs.Rooms.{area_taken, floats_room, column_height_of, room_of}
use Rattle.tb_float.proofs.Pool.room.Goals as goal

pub returns-in-Top-clause-value : goal.returns-in-Top-clause-value
returns-in-Top-clause-value c =
    let p = c.args.p.now in
    let lists = c.args.self.now.lists in
    let share : FitsSigned w64 p.topfraction = search rules in
    let left : FitsSigned w64 c.room_left.result = search rules in
    let value = simp to_z-of_z at c.room_left.ensures.value in
    simp to_z-of_z (value ∙ ap (λ part. fraction_of p.topfraction (column_height_of p lists) -ℤ area_taken p (floats_of part lists)) c.in-Top.is ∙ sym (ap (λ part. room_of part p lists) c.in-Top.is))

pub returns-in-Top-clause-room : goal.returns-in-Top-clause-room
returns-in-Top-clause-room c =
    let left : FitsSigned w64 c.room_left.result = search rules in
    simp to_z-of_z c.room_left.ensures.room

pub returns-in-Bottom-clause-value : goal.returns-in-Bottom-clause-value
returns-in-Bottom-clause-value c =
    let p = c.args.p.now in
    let lists = c.args.self.now.lists in
    let share : FitsSigned w64 p.bottomfraction = search rules in
    let left : FitsSigned w64 c.room_left-in-Bottom.result = search rules in
    let value = simp to_z-of_z at c.room_left-in-Bottom.ensures.value in
    simp to_z-of_z (value ∙ ap (λ part. fraction_of p.bottomfraction (column_height_of p lists) -ℤ area_taken p (floats_of part lists)) c.in-Bottom.is ∙ sym (ap (λ part. room_of part p lists) c.in-Bottom.is))

pub returns-in-Bottom-clause-room : goal.returns-in-Bottom-clause-room
returns-in-Bottom-clause-room c =
    let left : FitsSigned w64 c.room_left-in-Bottom.result = search rules in
    simp to_z-of_z c.room_left-in-Bottom.ensures.room

pub returns-in-Double-clause-value : goal.returns-in-Double-clause-value
returns-in-Double-clause-value c =
    let p = c.args.p.now in
    let lists = c.args.self.now.lists in
    let share : FitsSigned w64 p.dbltopfraction = search rules in
    let height : FitsSigned w64 p.textheight = search rules in
    let first : FitsSigned w64 p.dbltextfloatsep.width = search rules in
    let between : FitsSigned w64 p.dblfloatsep.width = search rules in
    let whole : FitsSigned w64 c.share_of.result = search rules in
    let taken : FitsSigned w64 c.area_taken.result = search rules in
    let left : FitsSigned w64 c.difference_of.result = search rules in
    let difference = simp to_z-of_z at c.difference_of.ensures in
    let shared = simp to_z-of_z at c.share_of.ensures.value in
    let area = (simp to_z-of_z at c.area_taken.ensures.value) ∙ ap (λ part. floats_room p.dbltextfloatsep.width p.dblfloatsep.width (floats_of part lists)) c.in-Double.is in
    simp to_z-of_z (difference ∙ (λ i. shared i -ℤ area i) ∙ sym (ap (λ part. room_of part p lists) c.in-Double.is))
