-- The result of placing the draws of a script. Does each command get its own noise, or no command any?
use Rattle.std.specs.Prelude.{◌≡◌, ℕ, List, Result, Ok, Err}
use Rattle.mb_model.specs.declared.event.Event.{Event}
use Rattle.mb_model.specs.chains.Script.{IsShortNoise, Drawn}

-- the events have their draws; or the noise has fewer than 32 bytes for each command, and the events stay as they were
abbrev pub PlacesDraws : {E : Type 0} → List Event → List ℕ → Result (Unit {0}) E → List Event → Type 0
PlacesDraws old noise (Ok u) new = Drawn old noise new
PlacesDraws old noise (Err e) new = IsShortNoise old noise × (new ≡ old)
