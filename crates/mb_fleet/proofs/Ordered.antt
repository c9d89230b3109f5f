-- Rows stay in order while items are answered.
use Rattle.std.proofs.Common.{◌≡◌, ℕ, List, ◌∷◌, ◌++◌, sym, subst}
use Rattle.mb_model.specs.declared.key.PublicKey.{PublicKey}
use Rattle.mb_fleet.specs.declared.row.Row.{Row}
use Rattle.mb_fleet.specs.declared.item.Item.{Item}
use Rattle.mb_fleet.specs.declared.item.Item.TheVariants.{Show, Find, Codes}
use Rattle.mb_fleet.specs.Rows.{AreOrdered, serial_of_row}
use Rattle.mb_fleet.specs.Showing.{Answer, Meets, is_added, is_full, is_same, is_extended, is_older, is_forked, IsChainAnswered, is_chain_refused, is_shown}
use Rattle.mb_fleet.specs.Serving.{FleetStep}
use Rattle.mb_fleet.proofs.Ascending.{ascending_between, ascending_instead}

pub meets_ordered : (rows after : List Row) (row : Row) (answer : Answer) → Meets rows row answer after → AreOrdered rows → AreOrdered after
meets_ordered rows after row answer (is_added none few before later split stands after_is answer_is) ordered =
    subst AreOrdered (sym after_is) (ascending_between serial_of_row before row later (subst AreOrdered split ordered) stands.below stands.above)
meets_ordered rows after row answer (is_full none many after_is answer_is) ordered = subst AreOrdered (sym after_is) ordered
meets_ordered rows after row answer (is_same before old later has equal after_is answer_is) ordered = subst AreOrdered (sym after_is) ordered
meets_ordered rows after row answer (is_extended before old later has shorter after_is answer_is) ordered =
    subst AreOrdered (sym after_is) (ascending_instead serial_of_row before old row later has.serial (subst AreOrdered has.split ordered))
meets_ordered rows after row answer (is_older before old later has longer after_is answer_is) ordered = subst AreOrdered (sym after_is) ordered
meets_ordered rows after row answer (is_forked before old later has place differ after_is answer_is) ordered = subst AreOrdered (sym after_is) ordered

pub step_ordered : (maker : PublicKey) (rows after : List Row) (item : Item) (lines : List (List ℕ)) → FleetStep maker rows item lines after → AreOrdered rows → AreOrdered after
step_ordered maker rows after (Show bytes) lines step ordered = by step.1
  where
    by : IsChainAnswered maker rows bytes step.0 after → AreOrdered after
    by (is_chain_refused why refused after_is answer_is) = subst AreOrdered (sym after_is) ordered
    by (is_shown row shown meets) = meets_ordered rows after row step.0 meets ordered
step_ordered maker rows after (Find layer hash) lines step ordered = subst AreOrdered (sym step.1) ordered
step_ordered maker rows after (Codes layer) lines step ordered = subst AreOrdered (sym step.3) ordered
