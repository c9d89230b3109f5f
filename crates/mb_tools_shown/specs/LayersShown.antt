-- The lines of three layers, as the listing of `verify` has them.
use Rattle.std.specs.Prelude.{ℕ, List, [], ◌∷◌}
use Rattle.mb_model.specs.declared.layer.Layers.{Layers}
use Rattle.mb_model.specs.chains.Listing.{layer_line}

abbrev pub layers_shown : Layers → List (List ℕ)
layers_shown layers = layer_line 1 layers.one ∷ layer_line 2 layers.two ∷ layer_line 3 layers.three ∷ []
