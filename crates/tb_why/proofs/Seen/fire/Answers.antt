use Rattle.std.proofs.Common.{◌≡◌, refl, ℕ, ℤ, Bool, true, false, List, [], ◌++◌, append-nil, sym, ap, ◌∙◌, subst, OnOk, FitsSigned, w64, rules}
use Rattle.std.specs.Prelude.{int_le, if◌then◌else◌}
use Rattle.std.proofs.lemmas.Int.{to_z-of_z}
use Rattle.tb_scaled.specs.Scaled.{eject_penalty}
use Rattle.tb_param.specs.declared.Params.{Params}
use Rattle.tb_sheet.specs.Asked.{clear_penalty, par_penalty, vert_penalty}
use Rattle.tb_output.specs.declared.reading.Reading.{Reading}
use Rattle.tb_output.specs.Output.{is_int}
use Rattle.tb_told.specs.declared.Piece.{Piece}
use Rattle.tb_why.specs.Seen.{Seen, seen_pieces, ordinary_told, clear_told, text_float_told}
use Rattle.tb_why.proofs.Seen.fire.Goals.{then-is_signal-2-via-then-is_signal-2, then-is_signal-2-via-else-is_signal-2+then-is_signal-3}
use Rattle.tb_why.proofs.Seen.fire.Goals as goal

-- what is told, by the tests of the penalty
abbrev fired-by : Bool → Bool → Bool → Bool → Params → List ℕ → Reading → Seen → List Piece
fired-by eject clearing par vert p here r v =
    if eject then ordinary_told p here v
    else (if clearing then clear_told p here r v
    else (if par then text_float_told p r v
    else (if vert then text_float_told p r v
    else [])))

-- it is what is told of the firing
fired-is : (p : Params) (penalty : ℤ) (here : List ℕ) (r : Reading) (v : Seen) →
    seen_pieces p penalty here r v ≡ fired-by (int_le eject_penalty penalty) (is_int penalty clear_penalty) (is_int penalty par_penalty) (is_int penalty vert_penalty) p here r v
unfolding seen_pieces
fired-is p penalty here r v = refl

-- the same, where the tests have these answers
fired : (eject clearing par vert : Bool) (p : Params) (penalty : ℤ) (here : List ℕ) (r : Reading) (v : Seen) →
    int_le eject_penalty penalty ≡ eject → is_int penalty clear_penalty ≡ clearing → is_int penalty par_penalty ≡ par → is_int penalty vert_penalty ≡ vert →
    seen_pieces p penalty here r v ≡ fired-by eject clearing par vert p here r v
fired eject clearing par vert p penalty here r v a b c d =
    fired-is p penalty here r v
    ∙ ap (λ (x : Bool). fired-by x (is_int penalty clear_penalty) (is_int penalty par_penalty) (is_int penalty vert_penalty) p here r v) a
    ∙ ap (λ (x : Bool). fired-by eject x (is_int penalty par_penalty) (is_int penalty vert_penalty) p here r v) b
    ∙ ap (λ (x : Bool). fired-by eject clearing x (is_int penalty vert_penalty) p here r v) c
    ∙ ap (λ (x : Bool). fired-by eject clearing par x p here r v) d

pub returns-then-penalty-ge-EJECT_PENALTY : goal.returns-then-penalty-ge-EJECT_PENALTY
returns-then-penalty-ge-EJECT_PENALTY c =
    let p = c.args.p.now in
    let penalty = c.args.penalty in
    let here = c.args.here.now in
    let r = c.args.reading.now in
    let v = c.args.self.now in
    let eject : int_le eject_penalty penalty ≡ true = search rules in
    subst (λ (ps : List Piece). OnOk c.ordinary.result (c.ordinary.new.pieces.items ≡ c.args.pieces.now.items ++ ps))
    (sym (fired true _ _ _ p penalty here r v eject refl refl refl)) c.ordinary.ensures

pub returns-then-is_signal : goal.returns-then-is_signal
returns-then-is_signal c =
    let p = c.args.p.now in
    let penalty = c.args.penalty in
    let here = c.args.here.now in
    let r = c.args.reading.now in
    let v = c.args.self.now in
    let fits : FitsSigned w64 penalty = search rules in
    let eject : int_le eject_penalty penalty ≡ false = simp to_z-of_z at c.if-penalty-ge-EJECT_PENALTY.false in
    let clearing : is_int penalty clear_penalty ≡ true = simp to_z-of_z at (sym c.is_signal.ensures ∙ c.if-is_signal.true) in
    subst (λ (ps : List Piece). OnOk c.clear.result (c.clear.new.pieces.items ≡ c.args.pieces.now.items ++ ps))
    (sym (fired false true _ _ p penalty here r v eject clearing refl refl)) c.clear.ensures

pub returns-then-is_signal-2 : goal.returns-then-is_signal-2
returns-then-is_signal-2 c =
    let p = c.args.p.now in
    let penalty = c.args.penalty in
    let here = c.args.here.now in
    let r = c.args.reading.now in
    let v = c.args.self.now in
    let fits : FitsSigned w64 penalty = search rules in
    let eject : int_le eject_penalty penalty ≡ false = simp to_z-of_z at c.if-penalty-ge-EJECT_PENALTY.false in
    let clearing : is_int penalty clear_penalty ≡ false = simp to_z-of_z at (sym c.is_signal.ensures ∙ c.if-is_signal.false) in
    let told = c.text_float.ensures in
    elim c.then-is_signal-2.branch [
      | then-is_signal-2-via-then-is_signal-2 w ↦
          let par : is_int penalty par_penalty ≡ true = simp to_z-of_z at (sym c.is_signal-2.ensures ∙ w.if-is_signal-2.true) in
          subst (λ (ps : List Piece). OnOk c.text_float.result (c.text_float.new.pieces.items ≡ c.args.pieces.now.items ++ ps))
          (sym (fired false false true _ p penalty here r v eject clearing par refl)) told
      | then-is_signal-2-via-else-is_signal-2+then-is_signal-3 w ↦
          let par : is_int penalty par_penalty ≡ false = simp to_z-of_z at (sym c.is_signal-2.ensures ∙ w.if-is_signal-2.false) in
          let vert : is_int penalty vert_penalty ≡ true = simp to_z-of_z at (sym w.is_signal-else-is_signal-2.ensures ∙ w.if-is_signal-3.true) in
          subst (λ (ps : List Piece). OnOk c.text_float.result (c.text_float.new.pieces.items ≡ c.args.pieces.now.items ++ ps))
          (sym (fired false false false true p penalty here r v eject clearing par vert)) told
    ]

pub returns : goal.returns
returns c =
    let p = c.args.p.now in
    let penalty = c.args.penalty in
    let here = c.args.here.now in
    let r = c.args.reading.now in
    let v = c.args.self.now in
    let fits : FitsSigned w64 penalty = search rules in
    let eject : int_le eject_penalty penalty ≡ false = simp to_z-of_z at c.if-penalty-ge-EJECT_PENALTY.false in
    let clearing : is_int penalty clear_penalty ≡ false = simp to_z-of_z at (sym c.is_signal.ensures ∙ c.if-is_signal.false) in
    let par : is_int penalty par_penalty ≡ false = simp to_z-of_z at (sym c.is_signal-2.ensures ∙ c.if-is_signal-2.false) in
    let vert : is_int penalty vert_penalty ≡ false = simp to_z-of_z at (sym c.is_signal-else-is_signal-2.ensures ∙ c.if-is_signal-3.false) in
    sym (append-nil c.args.pieces.now.items) ∙ ap (λ (ps : List Piece). c.args.pieces.now.items ++ ps) (sym (fired false false false false p penalty here r v eject clearing par vert))
