use Rattle.std.proofs.Common.{◌≡◌, Some, None, slice_get, sym, ap, ◌∙◌, subst}
use Rattle.std.specs.Option.{option_map}
use Rattle.std.proofs.lemmas.Option.{slice_get-map}
use Rattle.tb_pool.specs.Lists.{list_at}
use Rattle.tb_float.specs.Lists.{entries_of}
use Rattle.tb_float.specs.Ranges.{IsSizedEntry}
use Rattle.tb_float.specs.Shelves.{slots_of}
use Rattle.tb_float.proofs.SlotLemmas.{slot-there}
use Rattle.tb_float.proofs.SoundLemmas.{entries_of-seen}
use Rattle.tb_float.proofs.Pool.entry.Goals as goal

pub returns-in-Some : goal.returns-in-Some
returns-in-Some c =
    let i = c.self.inside in
    let at = slots_of i.store i.shelves in
    let slots = c.self.invariant.stored.sound.slots in
    let got : slice_get (at c.args.p) c.args.k ≡ Some c.in-Some.slot.now = ap (λ l. slice_get (list_at i.store l) c.args.k) (sym c.of.ensures) ∙ sym c.in-Some.ensures in
    let seen = ap (λ v. slice_get (entries_of c.args.p v.lists) c.args.k) (sym c.self.view_is) ∙ ap (λ es. slice_get es c.args.k) (entries_of-seen c.args.p at (slots c.args.p)) ∙ slice_get-map (λ s. s.entry) (at c.args.p) c.args.k ∙ ap (option_map (λ s. s.entry)) got in
    record {
      value = sym (seen ∙ ap (λ s. Some s.entry) (sym c.slot.view_is));
      sized = subst (λ s. IsSizedEntry s.entry) (sym c.slot.view_is) (slot-there c.args.p c.args.k (at c.args.p) c.in-Some.slot.now (slots c.args.p) got).sized;
    }

pub returns-in-None : goal.returns-in-None
returns-in-None c =
    let i = c.self.inside in
    let at = slots_of i.store i.shelves in
    let slots = c.self.invariant.stored.sound.slots in
    let got : slice_get (at c.args.p) c.args.k ≡ None = ap (λ l. slice_get (list_at i.store l) c.args.k) (sym c.of.ensures) ∙ sym c.in-None.ensures in
    let seen = ap (λ v. slice_get (entries_of c.args.p v.lists) c.args.k) (sym c.self.view_is) ∙ ap (λ es. slice_get es c.args.k) (entries_of-seen c.args.p at (slots c.args.p)) ∙ slice_get-map (λ s. s.entry) (at c.args.p) c.args.k ∙ ap (option_map (λ s. s.entry)) got in
    record { value = sym seen; sized = tt }
