-- Whether an entry may follow those before it. Which test does it fail first?
use Rattle.std.specs.Prelude.{◌≢◌, ℕ}
use Rattle.mb_model.specs.declared.entry.Entry.{Entry}
use Rattle.mb_model.specs.declared.state.Figures.{Figures}
use Rattle.mb_model.specs.declared.state.Follow.{Follow}
use Rattle.mb_model.specs.declared.state.Follow.TheVariants.{Yes, Order, Rules}
use Rattle.mb_model.specs.owners.Log.{Ordered, Ruled}

-- an entry after others has the right position, and its signature the right index; those of the first are free
abbrev pub InOrder : Figures → Entry → ℕ → Type 0
InOrder before entry index = before.length ≢ 0 → Ordered before entry index

-- What an answer says of an entry after a log with these figures, whose signature has this index. Exactly one answer is
-- true of it.
abbrev pub FollowSays : Figures → Entry → ℕ → Follow → Type 0
FollowSays before entry index Yes = InOrder before entry index × Ruled before entry
FollowSays before entry index Order = (before.length ≢ 0) × (Ordered before entry index → ⊥)
FollowSays before entry index Rules = InOrder before entry index × (Ruled before entry → ⊥)
