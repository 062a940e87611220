use Rattle.std.proofs.Common.{◌≡◌, ◌∙◌, ◌<◌, ◌++◌, ◌∷◌, [], ap, refl, sym, subst, length, FitsSigned, w64, rules}
use Rattle.std.proofs.lemmas.Int.{to_z-of_z}
use Rattle.std.specs.Prelude.{true, slice_set, slice_index_or, if◌then◌else◌}
use Rattle.tb_pool.specs.Lists.{list_at}
use Rattle.tb_node.specs.SmallAmounts.{IsAmount}
use Rattle.tb_node.specs.PlainNodes.{inserted_of, PlainNode, ins}
use Rattle.tb_insert.specs.declared.Entry.{Entry}
use Rattle.tb_insert.specs.AccountEntries.{blank_entry, entry_of, IsAccountOf}
use Rattle.tb_insert.specs.Arrival.{Arrived, late_entry, with_late}
use Rattle.tb_insert.proofs.SettleLemmas.{late_penalties, late_arrives}
use Rattle.tb_insert.proofs.StandsLemmas.{arrive_stands, arrive_scan}
use Rattle.tb_insert.proofs.Account.arrive.Goals.{Then-is_cut_off}
use Rattle.tb_insert.proofs.Account.arrive.Goals as goal

-- the entry of a class that is cut off
module _ (c : Then-is_cut_off) where
  entry_is : entry_of c.args.self.now c.args.ins.now.class ≡ slice_index_or c.args.self.now.entries c.args.ins.now.class blank_entry
  entry_is = ap (λ b. if b then slice_index_or c.args.self.now.entries c.args.ins.now.class blank_entry else blank_entry) (c.is_cut_off.ensures.here c.if-is_cut_off.true)

  met : (entry_of c.args.self.now c.args.ins.now.class).met ≡ true
  met = ap (λ (e : Entry). e.met) entry_is ∙ c.is_cut_off.ensures.met c.if-is_cut_off.true

  split : (entry_of c.args.self.now c.args.ins.now.class).split ≡ true
  split = ap (λ (e : Entry). e.split) entry_is ∙ c.is_cut_off.ensures.split c.if-is_cut_off.true

  -- the insertion arrived late
  arrived_late : Arrived c.args.self.now (with_late c.args.self.now c.args.ins.now.class c.args.ins.now.floating c.args.index) c.args.scan.now c.args.scan.now (entry_of c.args.self.now c.args.ins.now.class)
      (late_entry c.args.self.now (slice_index_or c.args.self.now.entries c.args.ins.now.class blank_entry)) (inserted_of (list_at c.args.store.now) c.args.ins.now) c.args.index c.args.class.now c.args.box_size
  arrived_late =
      let a = c.args.self.now in
      let k = c.args.ins.now.class in
      let late = with_late a k c.args.ins.now.floating c.args.index in
      let i = inserted_of (list_at c.args.store.now) c.args.ins.now in
      subst (λ x. Arrived a late c.args.scan.now c.args.scan.now (entry_of a k) (late_entry a x) i c.args.index c.args.class.now c.args.box_size) entry_is
      (late_arrives a late c.args.scan.now (entry_of a k) i c.args.index c.args.class.now c.args.box_size met split refl refl)

pub come_late-requires-clause-penalties : goal.come_late-requires-clause-penalties
come_late-requires-clause-penalties c =
    let w = (goal.at.come_late-requires-clause-penalties c).Then-is_cut_off in
    subst IsAmount (late_penalties c.args.self.now c.args.self.now c.args.scan.now (entry_of c.args.self.now c.args.ins.now.class) (inserted_of (list_at c.args.store.now) c.args.ins.now) c.args.index c.args.class.now c.args.box_size (met w) (split w)) c.requires.fits.penalties

pub returns-then-is_cut_off-clause-stands : goal.returns-then-is_cut_off-clause-stands
returns-then-is_cut_off-clause-stands c = λ z page marked line stands co.
    let w = (goal.at.returns-then-is_cut_off-clause-stands c).Then-is_cut_off in
    let a = c.args.self.now in
    let k = c.args.ins.now.class in
    let late = with_late a k c.args.ins.now.floating c.args.index in
    let i = inserted_of (list_at c.args.store.now) c.args.ins.now in
    let below = c.requires.most in
    let within : k < length a.entries = search rules in
    let within_page : k < length a.on_page = search rules in
    subst (λ x. IsAccountOf x z (page ++ (let n : PlainNode = record { line = line; kind = ins i } in n) ∷ []) marked) (sym c.come_late.ensures)
    (arrive_stands a late late c.args.scan.now c.args.scan.now (late_entry a (slice_index_or a.entries k blank_entry)) i k c.args.index line c.args.class.now c.args.box_size z page marked
    refl c.requires.most within within_page c.requires.number stands co (arrived_late w) refl refl refl refl refl refl)

pub returns-then-is_cut_off-clause-scan : goal.returns-then-is_cut_off-clause-scan
returns-then-is_cut_off-clause-scan c = λ z page marked stands.
    let w = (goal.at.returns-then-is_cut_off-clause-scan c).Then-is_cut_off in
    let a = c.args.self.now in
    let k = c.args.ins.now.class in
    arrive_scan a (with_late a k c.args.ins.now.floating c.args.index) c.args.scan.now c.args.scan.now (late_entry a (slice_index_or a.entries k blank_entry)) (inserted_of (list_at c.args.store.now) c.args.ins.now) c.args.index c.args.class.now c.args.box_size z page marked
    c.requires.most stands (arrived_late w)

pub returns-clause-stands : goal.returns-clause-stands
returns-clause-stands c = λ z page marked line stands co.
    let bs : FitsSigned w64 c.args.box_size = c.ranges.box_size in
    let arrived = simp (to_z-of_z, c.entry-entry.ensures) at c.settle-settled.ensures.arrived in
    let within : c.from-number.result < length c.args.self.now.entries = search rules in
    let within_page : c.from-number.result < length c.args.self.now.on_page = search rules in
    arrive_stands c.args.self.now c.settle-settled.new.self _ c.args.scan.now c.settle-settled.new.scan c.settle-settled.result (inserted_of (list_at c.args.store.now) c.args.ins.now) c.from-number.result c.args.index line c.args.class.now c.args.box_size z page marked
    c.from-number.ensures c.requires.most within within_page c.requires.number stands co arrived refl refl (ap (λ xs. slice_set xs c.from-number.result c.settle-settled.result) c.settle-settled.ensures.entries)
    (ap (λ bs. slice_set bs c.from-number.result true) c.settle-settled.ensures.on_page) refl c.settle-settled.ensures.mark

pub returns-clause-scan : goal.returns-clause-scan
returns-clause-scan c = λ z page marked stands.
    let bs : FitsSigned w64 c.args.box_size = c.ranges.box_size in
    let arrived = simp (to_z-of_z, c.entry-entry.ensures) at c.settle-settled.ensures.arrived in
    arrive_scan c.args.self.now c.settle-settled.new.self c.args.scan.now c.settle-settled.new.scan c.settle-settled.result (inserted_of (list_at c.args.store.now) c.args.ins.now) c.args.index c.args.class.now c.args.box_size z page marked
    c.requires.most stands arrived
