-- A parameter that is set among the items: which parameters stay as they are, and that all stay in their ranges.
use Rattle.std.proofs.Common.{◌≡◌, refl, sym, ap, ◌∙◌, ℕ, pos, Bool, true, false, if◌then◌else◌}
use Rattle.std.specs.Prelude.{slice_get, unwrap_or, codes}
use Rattle.tb_param.specs.declared.params.Params.{Params}
use Rattle.tb_param.specs.declared.fields.Field.{Field}
use Rattle.tb_param.specs.declared.fields.Field.TheVariants as fields
use Rattle.tb_param.specs.declared.changes.Change.{Change}
use Rattle.tb_param.specs.declared.changes.SetPlace.TheVariants as places
use Rattle.tb_param.specs.declared.Value.{Value}
use Rattle.tb_param.specs.declared.table.Form.TheVariants as forms
use Rattle.tb_param.specs.Fields.{with_value, place}
use Rattle.tb_param.specs.Table.{named, rows}
use Rattle.tb_param.specs.Changes.{row_of_field, set_place, is_in_range, with_whole, changed}

-- the row of a parameter is its own
pub own-row : (f : Field) → (row_of_field f).field ≡ f
own-row fields.Textheight = refl
own-row f = refl

-- two parameters in one place are one
pub one-place : (f g : Field) → place f ≡ place g → f ≡ g
one-place f g e =
    sym (own-row f)
    ∙ ap (λ (k : ℕ). (unwrap_or (slice_get rows k) (named (codes "textheight") fields.Textheight (forms.Dim (pos 1)))).field) e
    ∙ own-row g

-- the measures are the same: what says how high a page is and what floats may take of it
pub record KeepsMeasures (p q : Params) : Type 0 where
  pub textheight : q.textheight ≡ p.textheight
  pub topnumber : q.topnumber ≡ p.topnumber
  pub bottomnumber : q.bottomnumber ≡ p.bottomnumber
  pub totalnumber : q.totalnumber ≡ p.totalnumber
  pub dbltopnumber : q.dbltopnumber ≡ p.dbltopnumber
  pub topfraction : q.topfraction ≡ p.topfraction
  pub bottomfraction : q.bottomfraction ≡ p.bottomfraction
  pub textfraction : q.textfraction ≡ p.textfraction
  pub floatpagefraction : q.floatpagefraction ≡ p.floatpagefraction
  pub dbltopfraction : q.dbltopfraction ≡ p.dbltopfraction
  pub dblfloatpagefraction : q.dblfloatpagefraction ≡ p.dblfloatpagefraction
  pub floatsep : q.floatsep ≡ p.floatsep
  pub textfloatsep : q.textfloatsep ≡ p.textfloatsep
  pub intextsep : q.intextsep ≡ p.intextsep
  pub dblfloatsep : q.dblfloatsep ≡ p.dblfloatsep
  pub dbltextfloatsep : q.dbltextfloatsep ≡ p.dbltextfloatsep
  pub fptop : q.fptop ≡ p.fptop
  pub fpsep : q.fpsep ≡ p.fpsep
  pub fpbot : q.fpbot ≡ p.fpbot
  pub dblfptop : q.dblfptop ≡ p.dblfptop
  pub dblfpsep : q.dblfpsep ≡ p.dblfpsep
  pub dblfpbot : q.dblfpbot ≡ p.dblfpbot

itself-kept : (p : Params) → KeepsMeasures p p
itself-kept p = record { textheight = refl; topnumber = refl; bottomnumber = refl; totalnumber = refl; dbltopnumber = refl; topfraction = refl; bottomfraction = refl; textfraction = refl; floatpagefraction = refl; dbltopfraction = refl; dblfloatpagefraction = refl; floatsep = refl; textfloatsep = refl; intextsep = refl; dblfloatsep = refl; dbltextfloatsep = refl; fptop = refl; fpsep = refl; fpbot = refl; dblfptop = refl; dblfpsep = refl; dblfpbot = refl }

-- a parameter that may be set anywhere is no measure
free-put : (f : Field) (v : Value) (p : Params) → set_place f ≡ places.Anywhere → KeepsMeasures p (with_value f v p)
free-put fields.Textheight v p e = cc
free-put fields.Topnumber v p e = cc
free-put fields.Bottomnumber v p e = cc
free-put fields.Totalnumber v p e = cc
free-put fields.Dbltopnumber v p e = cc
free-put fields.Topfraction v p e = cc
free-put fields.Bottomfraction v p e = cc
free-put fields.Textfraction v p e = cc
free-put fields.Floatpagefraction v p e = cc
free-put fields.Dbltopfraction v p e = cc
free-put fields.Dblfloatpagefraction v p e = cc
free-put fields.Floatsep v p e = cc
free-put fields.Textfloatsep v p e = cc
free-put fields.Intextsep v p e = cc
free-put fields.Dblfloatsep v p e = cc
free-put fields.Dbltextfloatsep v p e = cc
free-put fields.Fptop v p e = cc
free-put fields.Fpsep v p e = cc
free-put fields.Fpbot v p e = cc
free-put fields.Dblfptop v p e = cc
free-put fields.Dblfpsep v p e = cc
free-put fields.Dblfpbot v p e = cc
free-put fields.Pool v p e = cc
free-put fields.Maxdeadcycles v p e = cc
free-put fields.Maxpages v p e = cc
free-put fields.Maxnodes v p e = cc
free-put fields.Release v p e = cc
free-put fields.Skipfootins v p e = cc
free-put fields.Footlimit v p e = cc
free-put f v p e = record { textheight = refl; topnumber = refl; bottomnumber = refl; totalnumber = refl; dbltopnumber = refl; topfraction = refl; bottomfraction = refl; textfraction = refl; floatpagefraction = refl; dbltopfraction = refl; dblfloatpagefraction = refl; floatsep = refl; textfloatsep = refl; intextsep = refl; dblfloatsep = refl; dbltextfloatsep = refl; fptop = refl; fpsep = refl; fpbot = refl; dblfptop = refl; dblfpsep = refl; dblfpbot = refl }

-- setting such a parameter keeps the measures
pub free-keeps : (p : Params) (c : Change) → set_place c.field ≡ places.Anywhere → KeepsMeasures p (changed p c)
free-keeps p c e = by_test (is_in_range c)
  where
    by_test : (t : Bool) → KeepsMeasures p (with_whole p (if t then with_value c.field c.value p else p))
    by_test true = let k : KeepsMeasures p (with_value c.field c.value p) = free-put c.field c.value p e in record { textheight = k.textheight; topnumber = k.topnumber; bottomnumber = k.bottomnumber; totalnumber = k.totalnumber; dbltopnumber = k.dbltopnumber; topfraction = k.topfraction; bottomfraction = k.bottomfraction; textfraction = k.textfraction; floatpagefraction = k.floatpagefraction; dbltopfraction = k.dbltopfraction; dblfloatpagefraction = k.dblfloatpagefraction; floatsep = k.floatsep; textfloatsep = k.textfloatsep; intextsep = k.intextsep; dblfloatsep = k.dblfloatsep; dbltextfloatsep = k.dbltextfloatsep; fptop = k.fptop; fpsep = k.fpsep; fpbot = k.fpbot; dblfptop = k.dblfptop; dblfpsep = k.dblfpsep; dblfpbot = k.dblfpbot }
    by_test false = record { textheight = refl; topnumber = refl; bottomnumber = refl; totalnumber = refl; dbltopnumber = refl; topfraction = refl; bottomfraction = refl; textfraction = refl; floatpagefraction = refl; dbltopfraction = refl; dblfloatpagefraction = refl; floatsep = refl; textfloatsep = refl; intextsep = refl; dblfloatsep = refl; dbltextfloatsep = refl; fptop = refl; fpsep = refl; fpbot = refl; dblfptop = refl; dblfpsep = refl; dblfpbot = refl }
