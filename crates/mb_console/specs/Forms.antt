-- An input in a form: its role, the name of its file, and what its bytes mean.
use Rattle.std.specs.Prelude.{ℕ, List}
use Rattle.mb_model_commands.specs.declared.role.Role.{Role}
use Rattle.mb_model_commands.specs.declared.role.Place.{Place}
use Rattle.mb_model_commands.specs.Commands.{Input}
use Rattle.mb_console.specs.declared.input.Unread.{Unread}
use Rattle.mb_console.specs.declared.input.Unread.TheVariants as unread

abbrev pub input_of : {A : Type 0} → Role → List ℕ
    → (List ℕ → A → Type 0) → (List ℕ → Place → Type 0) → Input A
input_of role name Is FaultyAt = record { role = role; name = name; Is = Is; FaultyAt = FaultyAt }

-- the bytes are at fault at the place that is answered; if an allocation failed, nothing is said of them
abbrev pub IsUnread : (Place → Type 0) → Unread → Type 0
IsUnread FaultyAt (unread.At place) = FaultyAt place
IsUnread FaultyAt unread.NoMemory = Unit {0}
