-- The lines of a listing one by one.
use Rattle.std.specs.Prelude.{ℕ, nat_le, List, [], ◌∷◌, codes, if◌then◌else◌}
use Rattle.std.specs.Fmt.{decimal}
use Rattle.mb_model.specs.declared.layer.Layer.{Layer}
use Rattle.mb_model.specs.declared.state.Report.{Report}
use Rattle.mb_model.specs.chains.Lines.{spaced_words}
use Rattle.mb_model.specs.chains.Drafts.{kind_word}
use Rattle.mb_model.specs.chains.Listing.{life_word, layer_line}

-- the line of the key
abbrev pub key_line : ℕ → Report → List ℕ
key_line key report =
    spaced_words (codes "key" ∷ decimal key ∷ kind_word report.kind
    ∷ codes "layer" ∷ decimal report.layer ∷ life_word report.alive ∷ [])

-- the line of layer m, or none if m is above `last`
abbrev pub line_upto : ℕ → ℕ → Layer → List (List ℕ)
line_upto last m layer = if nat_le m last then layer_line m layer ∷ [] else []
