-- Looking over the items of a list in a loop.
use Rattle.std.proofs.Common.{◌≡◌, ℕ, zero, suc, [], Result, Ok, Err, refl}
use Rattle.mb_format.specs.Format.{Format}
use Rattle.mb_format.specs.Combinators.{items, both, cons, uncons}
use Rattle.mb_format.specs.Reading.{IsExact}
use Rattle.mb_format.proofs.Compositions.{items_exact}
use Rattle.mb_bytes.specs.declared.cursor.Cursor.{Cursor}
use Rattle.mb_command.specs.declared.stuck.Stuck.{Stuck}
use Rattle.mb_command.specs.Beginnings.{IsInhabited}
use Rattle.mb_command.specs.Surveys.{IsFound, IsStuck, Surveys, NothingTold}
use Rattle.mb_command.proofs.Surveying.{both_stuck, both_surveys, made_stuck, made_surveys}

-- what is found from here on settles what is found from there on
abbrev pub Leads : {A B : Type 0} → Format A → Cursor → Format B → Cursor → Type 0
Leads f old g now = (r : Result (Unit {0}) Stuck) (new : Cursor) → Surveys NothingTold g now r new → Surveys NothingTold f old r new

item_surveys : {A S : Type 0} (item : S → Format A) (next : S → A → S) (m : ℕ) (state : S) (T : A → Type 0) (now after new : Cursor) (r : Result (Unit {0}) Stuck) → IsExact (item state) → (p : IsFound (item state) now after T)
    → Surveys NothingTold (items item next m (next state p.value)) after r new → Surveys NothingTold (items item next (suc m) state) now r new
unfolding items
item_surveys item next m state T now after new r exact p s =
    made_surveys (both (item state) (λ a. items item next m (next state a))) cons uncons now new r (both_surveys (item state) (λ a. items item next m (next state a)) T now after new r exact p s)

-- the next item was found
pub items_go_on : {A S B : Type 0} (f : Format B) (item : S → Format A) (next : S → A → S) (n m : ℕ) (state : S) (T : A → Type 0) (old now after : Cursor) → n ≡ suc m → IsExact (item state) → (p : IsFound (item state) now after T)
    → Leads f old (items item next n state) now → Leads f old (items item next m (next state p.value)) after
items_go_on f item next n m state T old now after e exact p leads r new s =
    leads r new (rw e (item_surveys item next m state T now after new r exact p s))

item_stuck : {A S : Type 0} (item : S → Format A) (next : S → A → S) (m : ℕ) (state : S) (now new : Cursor) (e : Stuck) → ((s : S) → IsExact (item s)) → ((a : A) → (item state).Allowed a → IsInhabited (items item next m (next state a)))
    → IsStuck (item state) now e new → IsStuck (items item next (suc m) state) now e new
unfolding items
item_stuck item next m state now new e exact inhabited s =
    made_stuck (both (item state) (λ a. items item next m (next state a))) cons uncons now new e (both_stuck (item state) (λ a. items item next m (next state a)) now new e (exact state) (λ a h. items_exact next m (next state a) exact) inhabited s)

-- the next item was not found
pub items_stick : {A S B : Type 0} (f : Format B) (item : S → Format A) (next : S → A → S) (n m : ℕ) (state : S) (old now new : Cursor) (e : Stuck) → n ≡ suc m → ((s : S) → IsExact (item s)) → ((a : A) → (item state).Allowed a → IsInhabited (items item next m (next state a)))
    → Leads f old (items item next n state) now → IsStuck (item state) now e new → IsStuck f old e new
items_stick f item next n m state old now new e is exact inhabited leads s = leads (Err e) new (rw is (item_stuck item next m state now new e exact inhabited s))

none_left : {A S : Type 0} (item : S → Format A) (next : S → A → S) (state : S) (now : Cursor) → IsFound (items item next zero state) now now (NothingTold tt)
unfolding items
none_left item next state now = record { bytes = refl; value = []; reads = refl; told = tt }

-- all items were found
pub items_finish : {A S B : Type 0} (f : Format B) (item : S → Format A) (next : S → A → S) (n : ℕ) (state : S) (old now : Cursor) → n ≡ zero → Leads f old (items item next n state) now → IsFound f old now (NothingTold tt)
items_finish f item next n state old now is leads = leads (Ok tt) now (rw is (none_left item next state now))

pub items_start : {A : Type 0} (f : Format A) (old : Cursor) → Leads f old f old
items_start f old r new s = s
