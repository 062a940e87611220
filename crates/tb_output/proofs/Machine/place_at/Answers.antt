use Rattle.tb_output.proofs.FiringWork.ResultLemmas.{ok-map, err-map}
use Rattle.tb_output.proofs.Machine.place_at.Goals as goal

pub returns-in-Top-clause-ok : goal.returns-in-Top-clause-ok
returns-in-Top-clause-ok c = rw c.in-Top.is (ok-map c.place_area.result _ _ (λ y. y c.args.vert) c.place_area.ensures.ok)

pub returns-in-Top-clause-err : goal.returns-in-Top-clause-err
returns-in-Top-clause-err c = rw c.in-Top.is (err-map c.place_area.result _ _ (λ e y. y c.args.vert) c.place_area.ensures.err)

pub returns-in-Bottom-clause-ok : goal.returns-in-Bottom-clause-ok
returns-in-Bottom-clause-ok c = rw c.in-Bottom.is (ok-map c.place_area-in-Bottom.result _ _ (λ y. y c.args.vert) c.place_area-in-Bottom.ensures.ok)

pub returns-in-Bottom-clause-err : goal.returns-in-Bottom-clause-err
returns-in-Bottom-clause-err c = rw c.in-Bottom.is (err-map c.place_area-in-Bottom.result _ _ (λ e y. y c.args.vert) c.place_area-in-Bottom.ensures.err)

pub returns-in-Page-clause-ok : goal.returns-in-Page-clause-ok
returns-in-Page-clause-ok c = rw c.in-Page.is (ok-map c.defer.result _ _ (λ y. y c.args.vert) c.defer.ensures.ok)

pub returns-in-Page-clause-err : goal.returns-in-Page-clause-err
returns-in-Page-clause-err c = rw c.in-Page.is (err-map c.defer.result _ _ (λ e y. y c.args.vert) c.defer.ensures.err)

pub returns-in-Double-clause-ok : goal.returns-in-Double-clause-ok
returns-in-Double-clause-ok c = rw c.in-Double.is (ok-map c.defer-in-Double.result _ _ (λ y. y c.args.vert) c.defer-in-Double.ensures.ok)

pub returns-in-Double-clause-err : goal.returns-in-Double-clause-err
returns-in-Double-clause-err c = rw c.in-Double.is (err-map c.defer-in-Double.result _ _ (λ e y. y c.args.vert) c.defer-in-Double.ensures.err)

pub returns-in-Deferred-clause-ok : goal.returns-in-Deferred-clause-ok
returns-in-Deferred-clause-ok c = rw c.in-Deferred.is (ok-map c.defer-in-Deferred.result _ _ (λ y. y c.args.vert) c.defer-in-Deferred.ensures.ok)

pub returns-in-Deferred-clause-err : goal.returns-in-Deferred-clause-err
returns-in-Deferred-clause-err c = rw c.in-Deferred.is (err-map c.defer-in-Deferred.result _ _ (λ e y. y c.args.vert) c.defer-in-Deferred.ensures.err)
