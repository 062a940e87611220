use Rattle.std.proofs.Common.{◌≡◌, refl, ℤ, Bool, false, List, [], ◌∷◌, ◌++◌, append-nil, sym, ap, ◌∙◌, subst, OnOk, Option, Some, None, FitsSigned, w64, rules}
use Rattle.std.specs.Prelude.{slice_get}
use Rattle.std.proofs.lemmas.Int.{to_z-of_z}
use Rattle.tb_param.specs.declared.Params.{Params}
use Rattle.tb_float.specs.declared.Entry.{Entry}
use Rattle.tb_float.specs.declared.Entry.TheVariants as entries
use Rattle.tb_output.specs.declared.reading.Reading.{Reading}
use Rattle.tb_told.specs.AreaTold.{told_call}
use Rattle.tb_told.specs.declared.Tale.{Tale}
use Rattle.tb_told.specs.declared.Tale.TheVariants.{Calls}
use Rattle.tb_told.specs.declared.Piece.{Piece}
use Rattle.tb_told.specs.declared.Piece.TheVariants.{Says}
use Rattle.tb_told.specs.Tales.{tales, decisions}
use Rattle.tb_why.specs.Seen.{Seen, spot_seen, note_seen, told_unless, first_seen, text_float_told}
use Rattle.tb_why.proofs.Seen.text_float.Goals as goal

-- what is told of the first entry, if there is one
abbrev first-by : Params → ℤ → ℤ → Seen → Option Entry → List Tale
first-by p height page_height v (Some (entries.Float f)) = Calls (spot_seen v) f page_height ∷ decisions f (told_call p v.floats v.suppress page_height f)
first-by p height page_height v (Some (entries.Left m)) = note_seen p height m v ∷ []
first-by p height page_height v (Some (entries.Right m)) = []
first-by p height page_height v None = []

-- it is what is told of the list
first-is : (p : Params) (height page_height : ℤ) (es : List Entry) (v : Seen) →
    first_seen p height page_height es v ≡ first-by p height page_height v (slice_get es 0)
first-is p height page_height (entries.Float f ∷ es) v = refl
first-is p height page_height (entries.Left m ∷ es) v = refl
first-is p height page_height (entries.Right m ∷ es) v = refl
first-is p height page_height [] v = refl

-- what is told where the page limit was not met, by the first entry
told-by : (p : Params) (r : Reading) (v : Seen) (o : Option Entry) → v.over ≡ false → slice_get v.floats.current 0 ≡ o →
    text_float_told p r v ≡ tales (first-by p r.height r.page_height v o)
told-by p r v o below first =
    ap (λ (b : Bool). told_unless b (tales (first_seen p r.height r.page_height v.floats.current v))) below
    ∙ ap (λ (ts : List Tale). tales ts) (first-is p r.height r.page_height v.floats.current v ∙ ap (λ (x : Option Entry). first-by p r.height r.page_height v x) first)

-- nothing is told
told-none : (old told : List Piece) → told ≡ [] → old ≡ old ++ told
told-none old told none = sym (append-nil old) ∙ ap (λ ps. old ++ ps) (sym none)

pub returns-in-Some-Float : goal.returns-in-Some-Float
returns-in-Some-Float c =
    let p = c.args.p.now in
    let r = c.args.reading.now in
    let v = c.args.self.now in
    let f = c.in-Some-Float.f in
    let below : v.over ≡ false = ap (λ (u : Seen). u.over) (sym c.self.view_is) ∙ c.if-self.false in
    let first : slice_get v.floats.current 0 ≡ Some (entries.Float f) = search rules in
    let fits : FitsSigned w64 r.page_height = search rules in
    let told : OnOk c.call.result (c.call.new.pieces.items ≡ c.args.pieces.now.items ++ tales (first-by p r.height r.page_height v (Some (entries.Float f)))) = simp to_z-of_z at c.call.ensures in
    subst (λ (ps : List Piece). OnOk c.call.result (c.call.new.pieces.items ≡ c.args.pieces.now.items ++ ps))
    (sym (told-by p r v (Some (entries.Float f)) below first)) told

pub returns-in-Some-Left : goal.returns-in-Some-Left
returns-in-Some-Left c =
    let p = c.args.p.now in
    let r = c.args.reading.now in
    let v = c.args.self.now in
    let m = c.in-Some-Left.m in
    let below : v.over ≡ false = ap (λ (u : Seen). u.over) (sym c.self.view_is) ∙ c.if-self.false in
    let first : slice_get v.floats.current 0 ≡ Some (entries.Left m) = search rules in
    let fits : FitsSigned w64 r.height = search rules in
    let note : c.beside.result ≡ note_seen p r.height m v = simp to_z-of_z at c.beside.ensures in
    let said : told_unless v.over (Says c.beside.result ∷ []) ≡ tales (note_seen p r.height m v ∷ [])
    = ap (λ (b : Bool). told_unless b (Says c.beside.result ∷ [])) below ∙ ap (λ (t : Tale). tales (t ∷ [])) note in
    subst (λ (ps : List Piece). OnOk c.say.result (c.say.new.pieces.items ≡ c.args.pieces.now.items ++ ps))
    (said ∙ sym (told-by p r v (Some (entries.Left m)) below first)) c.say.ensures

pub returns-in-Some-Right : goal.returns-in-Some-Right
returns-in-Some-Right c =
    let p = c.args.p.now in
    let r = c.args.reading.now in
    let v = c.args.self.now in
    let below : v.over ≡ false = ap (λ (v : Seen). v.over) (sym c.self.view_is) ∙ c.if-self.false in
    let first : slice_get v.floats.current 0 ≡ Some (entries.Right c.in-Some-Right.field-0-0) = search rules in
    told-none c.args.pieces.now.items _ (told-by p r v _ below first)

pub returns-in-None : goal.returns-in-None
returns-in-None c =
    let p = c.args.p.now in
    let r = c.args.reading.now in
    let v = c.args.self.now in
    let below : v.over ≡ false = ap (λ (v : Seen). v.over) (sym c.self.view_is) ∙ c.if-self.false in
    let first : slice_get v.floats.current 0 ≡ None = search rules in
    told-none c.args.pieces.now.items _ (told-by p r v _ below first)
