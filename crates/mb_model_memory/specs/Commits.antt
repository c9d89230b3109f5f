-- What a memory holds while the work of an order is done. Does it mean one state from the commit on, at each step of
-- the work?
use Rattle.std.specs.Prelude.{◌≡◌, ℕ, List, [], Some}
use Rattle.mb_model.specs.declared.order.Order.{Order}
use Rattle.mb_model.specs.declared.state.State.{State}
use Rattle.mb_model.specs.declared.stored.Root.{Root}
use Rattle.mb_model.specs.machine.OrderEffects.{state_after_order}
use Rattle.mb_model.specs.declared.entry.Entry.{Entry}
use Rattle.mb_model.specs.machine.Work.{bodies_for, pending_for}
use Rattle.mb_model.specs.memories.Meaning.{Contents, region_after_fate, fate_of_two, fate_of_three}
use Rattle.mb_model.specs.memories.Clean.{root_of}

-- the root that commits: device key and uses as the order leaves them, and the pending work, with the public record in
-- this area of the flash
unfoldable pub root_for : State → Order → List ℕ → ℕ → Root
root_for state order draw area = record {
  area = area;
  serial = state.serial;
  device = (state_after_order state order draw).device;
  uses = (state_after_order state order draw).uses;
  pending = Some (pending_for state order draw);
}

-- ---- the steps of the work

-- the entries that an order appends
abbrev pub new_entries : State → Order → List ℕ → List Entry
new_entries state order draw = (bodies_for state order draw).entries

-- What a memory holds once an order is committed: this root, the codes that the order leaves, the log as it was and the
-- new entries unsigned, and both regions as they were.
unfoldable pub committed : State → Order → List ℕ → ℕ → Contents
committed state order draw area = record {
  root = root_for state order draw area;
  codes = (state_after_order state order draw).codes;
  signed = state.log;
  unsigned = new_entries state order draw;
  two = state.two;
  three = state.three;
}

-- the contents once what is to be done to region 2 is done
abbrev pub two_done : Contents → Contents
two_done contents = record contents { two = region_after_fate (fate_of_two contents.root.pending) contents.two }

-- the contents once what is to be done to region 3 is done
abbrev pub three_done : Contents → Contents
three_done contents = record contents { three = region_after_fate (fate_of_three contents.root.pending) contents.three }

-- the contents once what is to be done to both regions is done
abbrev pub both_done : Contents → Contents
both_done contents = three_done (two_done contents)

-- The work on these contents has come as far as this: what is to be done to a region is wholly done, or not begun.
pub data IsUnderWay (contents now : Contents) : Type 0 where
  not_begun : now ≡ contents → IsUnderWay contents now
  only_two : now ≡ two_done contents → IsUnderWay contents now
  only_three : now ≡ three_done contents → IsUnderWay contents now
  has_both : now ≡ both_done contents → IsUnderWay contents now

-- What a memory holds of a state once nothing is pending: each entry is signed, and the public record stands in this
-- area of the flash.
abbrev pub at_rest : State → ℕ → Contents
at_rest state area = record {
  root = root_of state area;
  codes = state.codes;
  signed = state.log;
  unsigned = [];
  two = state.two;
  three = state.three;
}
