-- The lines of a listing as text.
use Rattle.std.proofs.Common.{◌≡◌, ◌<◌, ◌≤◌, ◌+◌, ℕ, List, [], ◌∷◌, ◌++◌, length, take, get_or, Option, None, Some, refl, sym, ap, ◌∙◌, arith, append_assoc, Bool, true, false}
use Rattle.std.specs.Prelude.{codes, flat_map, zero, suc, if◌then◌else◌}
use Rattle.std.proofs.lemmas.Bool.{le-leb}
use Rattle.std.specs.Fmt.{decimal}
use Rattle.std.proofs.lemmas.Grind.{flat_map-append}
use Rattle.std.proofs.lemmas.List.{take_more, append-nil}
use Rattle.mb_model.specs.declared.layer.CodeName.{CodeName}
use Rattle.mb_model.specs.declared.layer.Layer.{Layer}
use Rattle.mb_model.specs.declared.layer.Layers.{Layers}
use Rattle.mb_model.specs.declared.state.Configuration.{Configuration}
use Rattle.mb_model.specs.declared.state.Report.{Report}
use Rattle.mb_model.specs.outside.Texts.{line_with_lf}
use Rattle.mb_model.specs.chains.Lines.{hex_word, spaced_words, text_of}
use Rattle.mb_model.specs.owners.Layers.{are_equal}
use Rattle.mb_model.specs.chains.Listing.{owner_word, code_words, reliable_word, trust_words, layer_line, configuration_lines, statement_lines, listing}
use Rattle.mb_model.specs.chains.Drafts.{trust_word}
use Rattle.mb_verifier.specs.Lines.{key_line, line_upto}

pub text_of-append : (a b : List (List ℕ)) → text_of (a ++ b) ≡ text_of a ++ text_of b
text_of-append [] b = refl
text_of-append (line ∷ a) b = ap (λ t. line_with_lf line ++ t) (text_of-append a b) ∙ sym (append_assoc (line_with_lf line) (text_of a) (text_of b))

take_nil : (n : ℕ) → take {A = List ℕ} n [] ≡ []
take_nil zero = refl
take_nil (suc n) = refl

line_there : (last m : ℕ) (layer : Layer) → m ≤ last → line_upto last m layer ≡ layer_line m layer ∷ []
line_there last m layer within = ap (λ b. if b then layer_line m layer ∷ [] else []) (le-leb m last within)

-- the layers up to one
pub lines_upto : (last : ℕ) (layers : Layers)
    → take last (layer_line 1 layers.one ∷ layer_line 2 layers.two ∷ layer_line 3 layers.three ∷ [])
    ≡ line_upto last 1 layers.one ++ (line_upto last 2 layers.two ++ line_upto last 3 layers.three)
lines_upto zero layers = refl
lines_upto (suc zero) layers = refl
lines_upto (suc (suc zero)) layers = refl
lines_upto (suc (suc (suc more))) layers =
    let last : ℕ = suc (suc (suc more)) in
    ap (λ (none : List (List ℕ)). layer_line 1 layers.one ∷ layer_line 2 layers.two ∷ layer_line 3 layers.three ∷ none) (take_nil more)
    ∙ sym (ap (λ (one : List (List ℕ)). one ++ (line_upto last 2 layers.two ++ line_upto last 3 layers.three)) (line_there last 1 layers.one (omega arith))
    ∙ ap (λ (two : List (List ℕ)). layer_line 1 layers.one ∷ (two ++ line_upto last 3 layers.three)) (line_there last 2 layers.two (omega arith))
    ∙ ap (λ (three : List (List ℕ)). layer_line 1 layers.one ∷ layer_line 2 layers.two ∷ three) (line_there last 3 layers.three (omega arith)))

-- one item more
pub lives_more : (lives : List Configuration) (i : ℕ) (d : Configuration) (start before after : List ℕ) → i < length lives
    → before ≡ start ++ text_of (flat_map configuration_lines (take i lives)) → after ≡ before ++ text_of (configuration_lines (get_or lives i d))
    → after ≡ start ++ text_of (flat_map configuration_lines (take (i + 1) lives))
lives_more lives i d start before after within was is =
    let front = flat_map configuration_lines (take i lives) in
    let own = configuration_lines (get_or lives i d) in
    let lines : flat_map configuration_lines (take (i + 1) lives) ≡ front ++ (own ++ []) =
    ap (flat_map configuration_lines) (take_more lives i d within) ∙ flat_map-append configuration_lines (take i lives) (get_or lives i d ∷ []) in
    is ∙ ap (λ t. t ++ text_of own) was ∙ append_assoc start (text_of front) (text_of own)
    ∙ ap (λ t. start ++ t) (sym (text_of-append front own) ∙ ap text_of (ap (λ t. front ++ t) (sym (append-nil own)) ∙ sym lines))

-- ---- the line of a layer

-- the words of a code stand in a line as two words do
pub layer_words : (front : List ℕ) (code : Option CodeName) (reliable trust : List ℕ) (more : List (List ℕ))
    → spaced_words (front ∷ code_words code ++ reliable ∷ trust ∷ more) ≡ front ++ 32 ∷ (spaced_words (code_words code) ++ 32 ∷ (reliable ++ 32 ∷ spaced_words (trust ∷ more)))
layer_words front None reliable trust more = refl
layer_words front (Some code) reliable trust more = ap (λ t. front ++ 32 ∷ t) (sym (append_assoc (hex_word code.hash) _ _))

trusted_words : (front : List ℕ) (code : Option CodeName) (reliable one two : List ℕ) (equal : Bool)
    → spaced_words (front ∷ code_words code ++ reliable ∷ (if equal then one ∷ [] else one ∷ two ∷ []))
    ≡ front ++ 32 ∷ (spaced_words (code_words code) ++ 32 ∷ (reliable ++ 32 ∷ spaced_words (if equal then one ∷ [] else one ∷ two ∷ [])))
trusted_words front code reliable one two true = layer_words front code reliable one []
trusted_words front code reliable one two false = layer_words front code reliable one (two ∷ [])

-- what is written of a layer is its line
pub layer_text : (number : ℕ) (layer : Layer) (line owner code reliable trust : List ℕ) → owner ≡ owner_word layer.owner → code ≡ spaced_words (code_words layer.code)
    → reliable ≡ reliable_word layer.reliable → trust ≡ spaced_words (trust_words layer.trust)
    → line ≡ codes "layer " ++ (decimal number ++ 32 ∷ (owner ++ 32 ∷ (code ++ 32 ∷ (reliable ++ 32 ∷ (trust ++ 10 ∷ [])))))
    → line ≡ line_with_lf (layer_line number layer)
layer_text number layer line owner code reliable trust owner_is code_is reliable_is trust_is is =
    let words = trusted_words (owner_word layer.owner) layer.code (reliable_word layer.reliable) (trust_word layer.trust.one) (trust_word layer.trust.two) (are_equal layer.trust) in
    let whole : line_with_lf (layer_line number layer) ≡ codes "layer " ++ (decimal number ++ 32 ∷ (owner_word layer.owner ++ 32 ∷ (spaced_words (code_words layer.code) ++ 32 ∷ (reliable_word layer.reliable ++ 32 ∷ (spaced_words (trust_words layer.trust) ++ 10 ∷ []))))) =
    ap (λ ws. line_with_lf (codes "layer " ++ (decimal number ++ 32 ∷ ws))) words ∙ simp append_assoc in
    is ∙ rw (owner_is, code_is, reliable_is, trust_is) (sym whole)

-- ---- the whole

regroup : (a b c d e : List ℕ) → (((a ++ b) ++ c) ++ d) ++ e ≡ a ++ (b ++ (c ++ (d ++ e)))
regroup a b c d e = simp append_assoc

pub configuration_whole : (item : Configuration) (out start one two three : List ℕ)
    → start ≡ out ++ line_with_lf (spaced_words (codes "configuration" ∷ decimal item.number ∷ []))
    → one ≡ start ++ text_of (line_upto item.upto 1 item.layers.one) → two ≡ one ++ text_of (line_upto item.upto 2 item.layers.two)
    → three ≡ two ++ text_of (line_upto item.upto 3 item.layers.three) → three ≡ out ++ text_of (configuration_lines item)
configuration_whole item out start one two three start_is one_is two_is three_is =
    let first = line_with_lf (spaced_words (codes "configuration" ∷ decimal item.number ∷ [])) in
    let a = line_upto item.upto 1 item.layers.one in
    let b = line_upto item.upto 2 item.layers.two in
    let c = line_upto item.upto 3 item.layers.three in
    let lines : text_of (configuration_lines item) ≡ first ++ (text_of a ++ (text_of b ++ text_of c)) =
    ap (λ ls. first ++ text_of ls) (lines_upto item.upto item.layers)
    ∙ ap (λ t. first ++ t) (text_of-append a (b ++ c) ∙ ap (λ t. text_of a ++ t) (text_of-append b c)) in
    three_is ∙ ap (λ t. t ++ text_of c) (two_is ∙ ap (λ t. t ++ text_of b) (one_is ∙ ap (λ t. t ++ text_of a) start_is))
    ∙ regroup out first (text_of a) (text_of b) (text_of c)
    ∙ ap (λ t. out ++ t) (sym lines)

pub listing_whole : (key : ℕ) (report : Report) (first second third : List ℕ) → first ≡ line_with_lf (key_line key report)
    → second ≡ first ++ text_of (flat_map configuration_lines report.lives) → third ≡ second ++ text_of (statement_lines report.said)
    → third ≡ text_of (listing key report)
unfolding listing
listing_whole key report first second third first_is second_is third_is =
    let lives = flat_map configuration_lines report.lives in
    let stated = statement_lines report.said in
    third_is ∙ ap (λ t. t ++ text_of stated) (second_is ∙ ap (λ t. t ++ text_of lives) first_is)
    ∙ append_assoc (line_with_lf (key_line key report)) (text_of lives) (text_of stated)
    ∙ ap (λ t. line_with_lf (key_line key report) ++ t) (sym (text_of-append lives stated))
