-- A page that is held.
use Rattle.std.proofs.Common.{◌≡◌, ◌≢◌, refl, sym, ◌∙◌, ap, ℕ, ℤ, map, List, [], ◌∷◌, ◌++◌}
use Rattle.std.specs.List.{AllByRecursion}
use Rattle.std.specs.FinMap.{get, remove}
use Rattle.tb_pool.specs.Lists.{Lists, list_at}
use Rattle.tb_pool.specs.Frame.{IsNoneOf}
use Rattle.tb_pool.proofs.MapLemmas.{get-remove_other}
use Rattle.tb_node.specs.declared.Node.{Node}
use Rattle.tb_node.specs.PlainNodes.{plain_list, shape_of}
use Rattle.tb_node.specs.Sums.{size_of}
use Rattle.tb_column.specs.Page.{IsPageList}
use Rattle.tb_output.specs.Output.{hold}
use Rattle.tb_output.specs.Machine.{MachineView, left_lists, event_lists, machine_lists, IsRoomOf, IsMachine}
use Rattle.tb_output.specs.PageChanges.{with_held}
use Rattle.tb_output.specs.FiringWork.{shows, Does}
use Rattle.tb_output.specs.MachineFrame.{KeepsMachine}
use Rattle.tb_sheet.proofs.StandLemmas.{Stands}
use Rattle.tb_output.proofs.FiringWork.StandLemmas.{IsShownBy, stands-shown}
use Rattle.tb_output.proofs.FiringWork.WorkingLemmas.{does-shown}

-- the room of all nodes of a list is known
room-known : (ns : List Node) (room : ℤ) → room ≡ size_of (map shape_of ns) → IsRoomOf ns room
room-known [] room e = tt
room-known (n ∷ ns) room e = e

module _ (body : ℕ) (room : ℤ) (m : MachineView) (store new : Lists Node) (is : IsMachine m store) (page : IsPageList store body) (sized : room ≡ size_of (map shape_of (list_at store body))) (apart : IsNoneOf body (machine_lists m)) (dropped : new.lists ≡ remove store.lists m.held_page) where
  held-machine : IsMachine (with_held body room m) store
  held-machine = record {
    params = is.params;
    classes = is.classes;
    goal = is.goal;
    first = is.first;
    last = is.last;
    numbered = is.numbered;
    shrink = is.shrink;
    pool = is.pool;
    unmarked = is.unmarked;
    left = is.left;
    held_page = page;
    held_room = room-known (list_at store body) room sized;
    left_column = is.left_column;
    events = is.events;
    apart = (apart.1, is.apart.1);
  }

  others-stand : (q : ℕ) → q ≢ m.held_page → Stands store new q
  others-stand q ne = ap (λ x. get x q) dropped ∙ get-remove_other store.lists m.held_page q ne

  all-stand : (ls : List ℕ) → IsNoneOf m.held_page ls → AllByRecursion (Stands store new) ls
  all-stand [] h = tt
  all-stand (l ∷ ls) h = (others-stand l h.0, all-stand ls h.1)

  held-shown : IsShownBy (with_held body room m) store new
  held-shown = stands-shown (with_held body room m) store new held-machine (others-stand body (λ e. apart.0 (sym e)), all-stand (left_lists m.left_column ++ event_lists m.events) is.apart.0)

  pub held-keeps : KeepsMachine (body ∷ []) m (with_held body room m) store new
  held-keeps = record {
    machine = held-shown.machine;
    frame = λ q live none. (others-stand q (λ e. none.1.0 (sym e)), (none.0, none.1.1));
    fields = record { params = refl; classes = refl; fault = refl };
  }

  pub held-done : Does (shows m store) (shows (with_held body room m) new) (hold (plain_list store body))
  held-done = does-shown (shows (with_held body room m) new) m store (hold (plain_list store body))
      (λ before w sent. record { served = refl; sent = held-shown.events ∙ sent; state = held-shown.state w.state.boxes w.state.waiting })
