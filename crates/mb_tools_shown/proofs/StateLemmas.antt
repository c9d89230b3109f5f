-- What is shown of a device, and what carries out `showimage`.
use Rattle.std.proofs.Common.{◌≡◌, ℕ, Bool, List, [], ◌∷◌, ◌++◌, codes, length, is_some, Option, None, Some, Result, Err, refl, sym, ◌∙◌, ap, subst, append_assoc}
use Rattle.std.specs.Prelude.{map}
use Rattle.std.specs.Fmt.{decimal}
use Rattle.std.specs.List.{AllZip}
use Rattle.std.proofs.lemmas.Fmt.{decimal_injective}
use Rattle.std.proofs.lemmas.List.{append_cancel_left}
use Rattle.mb_format.specs.Format.{IsBytes}
use Rattle.mb_model.specs.declared.entry.SignedEntry.{SignedEntry}
use Rattle.mb_model.specs.declared.layer.Layers.{Layers}
use Rattle.mb_model.specs.declared.region.RegionKey.{RegionKey}
use Rattle.mb_model.specs.declared.region.Secret.{Secret}
use Rattle.mb_model.specs.declared.state.State.{State}
use Rattle.mb_model.specs.declared.stored.Root.{Root}
use Rattle.mb_model.specs.outside.Board.{Held, Used}
use Rattle.mb_model.specs.outside.Texts.{line_with_lf}
use Rattle.mb_model.specs.memories.Memory.{IsImage}
use Rattle.mb_model.specs.memories.Meaning.{IsWellFormed, HasMeaningBy, is_dead, is_live, RootIn}
use Rattle.mb_model.specs.memories.Flash.{HoldsPublic}
use Rattle.mb_model.specs.chains.Lines.{text_of}
use Rattle.mb_model_commands.specs.Outside.{Outside}
use Rattle.mb_model_commands.specs.Commands.{Command, Past, print, at_first}
use Rattle.mb_model_lemmas.proofs.FaultLemmas.{image_parts, image_bbram_bytes}
use Rattle.mb_model_lemmas.proofs.MeaningLemmas.{one_root_in}
use Rattle.mb_console.specs.declared.end.End.{End}
use Rattle.mb_console.specs.declared.end.End.TheVariants as end
use Rattle.mb_console.specs.Ending.{CarriesOut, CarriesOutAfter, CarriesOutRest, LeadsTo, RefusesWith}
use Rattle.mb_console.specs.Outputs.{writes}
use Rattle.mb_console.proofs.CommandLemmas.{memory_unprinted}
use Rattle.mb_console.proofs.Leading.{finds, is_refused}
use Rattle.mb_tools_shown.specs.ShowimageCommand.{TellsOfWork, show_device}
use Rattle.mb_tools_shown.specs.ShownLaws.{DifferInValue, DifferInSeed, DifferInSecrets, SecretsAreNotShown, LengthsAreShown}
use Rattle.mb_tools_shown.specs.StateShown.{counts_shown, device_shown, length_shown, number_shown, pending_shown, secret_shown, serial_shown, key_shown, state_shown}
use Rattle.mb_tools_shown.specs.LayersShown.{layers_shown}
use Rattle.mb_tools_shown.proofs.TextLemmas.{one_line, more_lines, three_lines}

-- ---- the text

pub counts_put : (pending : Bool) (state : State) (out one two three four five : List ℕ) → one ≡ out ++ line_with_lf (serial_shown state.serial) → two ≡ one ++ line_with_lf (number_shown state.log)
    → three ≡ two ++ line_with_lf (length_shown state.log) → four ≡ three ++ line_with_lf (pending_shown pending) → five ≡ four ++ line_with_lf (device_shown state.uses)
    → five ≡ out ++ text_of (counts_shown pending state)
counts_put pending state out one two three four five a b c d e =
    let first = three_lines out one two three (serial_shown state.serial) (number_shown state.log) (length_shown state.log) a b c in
    let second = more_lines three four five (pending_shown pending ∷ []) (device_shown state.uses ∷ []) (one_line three four (pending_shown pending) d) (one_line four five (device_shown state.uses) e) in
    more_lines out three five (serial_shown state.serial ∷ number_shown state.log ∷ length_shown state.log ∷ []) (pending_shown pending ∷ device_shown state.uses ∷ []) first second

pub state_put : (pending : Bool) (state : State) (counts layers two three keys all : List ℕ) → counts ≡ [] ++ text_of (counts_shown pending state) → layers ≡ counts ++ text_of (layers_shown state.layers)
    → two ≡ layers ++ text_of (map (secret_shown 2) state.two.secrets) → three ≡ two ++ text_of (map (secret_shown 3) state.three.secrets)
    → keys ≡ three ++ text_of (map (key_shown 2) state.two.keys) → all ≡ keys ++ text_of (map (key_shown 3) state.three.keys)
    → all ≡ text_of (state_shown pending state)
unfolding state_shown
state_put pending state counts layers two three keys all is_counts is_layers is_two is_three is_keys is_all =
    let a = counts_shown pending state in
    let b = layers_shown state.layers in
    let c = map (secret_shown 2) state.two.secrets in
    let d = map (secret_shown 3) state.three.secrets in
    let e = map (key_shown 2) state.two.keys in
    let f = map (key_shown 3) state.three.keys in
    more_lines [] counts all a (b ++ (c ++ (d ++ (e ++ f)))) is_counts
    (more_lines counts layers all b (c ++ (d ++ (e ++ f))) is_layers
    (more_lines layers two all c (d ++ (e ++ f)) is_two
    (more_lines two three all d (e ++ f) is_three
    (more_lines three keys all e f is_keys is_all))))
    ∙ ap text_of (regroup a b c d e f)
  where
    regroup : (a b c d e f : List (List ℕ)) → a ++ (b ++ (c ++ (d ++ (e ++ f)))) ≡ ((((a ++ b) ++ c) ++ d) ++ e) ++ f
    regroup a b c d e f = sym (simp append_assoc)

-- ---- the command

-- what the root record says of pending work, by the memory that an image holds
pub work_told : (image : List ℕ) (state : State) (told : Bool) → IsWellFormed image (Some state)
    → ((flash bbram : List ℕ) (root : Root) → IsImage image flash bbram → RootIn bbram root → told ≡ is_some root.pending) → TellsOfWork image told
work_told image state told formed tells = by (Some state) refl formed.stands.meaning
  where
    by : (found : Option State) → found ≡ Some state → HasMeaningBy HoldsPublic formed.flash formed.bbram found → TellsOfWork image told
    by found is (is_dead blank none) = absurd (cc)
    by found is (is_live contents holds index same) = record {
      flash = formed.flash;
      bbram = formed.bbram;
      image_is = formed.image_is;
      root = contents.root;
      holds = holds.root;
      pending_is = tells formed.flash formed.bbram contents.root formed.image_is holds.root;
    }

pub dead_not_shown : {used : Used} {final : Held} {whole : Command} {past : Past} {before : Outside} {later : Past} {mid : Outside}
    (image : List ℕ) (found : Option State) (why : End) → LeadsTo used final whole past before (show_device image found) later mid → found ≡ None
    → RefusesWith (codes "zeroised") why → used ≡ later.used → CarriesOutRest whole past used final before (Err why) mid
dead_not_shown image None why leads dead refuses same = is_refused leads same why refuses
dead_not_shown image (Some state) why leads dead refuses same = absurd (cc)

pub device_shown_on : {used : Used} {final : Held} {whole : Command} {past : Past} {before : Outside} {later : Past} {mid : Outside}
    (image : List ℕ) (found : Option State) (state : State) (told : Bool) → LeadsTo used final whole past before (show_device image found) later mid → found ≡ Some state
    → TellsOfWork image told → LeadsTo used final whole past before (print (text_of (state_shown told state))) later mid
device_shown_on image None state told leads there tells = absurd (cc)
device_shown_on {used} {final} {whole} {past} {before} {later} {mid} image (Some other) state told leads there tells =
    let same : other ≡ state = cc in
    subst (λ (s : State). LeadsTo used final whole past before (print (text_of (state_shown told s))) later mid) same (finds leads told tells)

pub text_printed : (lines : List (List ℕ)) (text : List ℕ) (before now : Outside) (result : Result (Unit {0}) End) → text ≡ text_of lines
    → CarriesOutAfter (writes [] (print text)) before result now → CarriesOut (print (text_of lines)) before result now
unfolding writes
text_printed lines text before now result is carried = λ final.
    (subst (λ (t : List ℕ). CarriesOutAfter (print t) before result now) is carried) at_first final

pub text_lacks : (text : List ℕ) (before : Outside) → CarriesOut (print text) before (Err end.NoMemory) before
text_lacks text before = λ final. memory_unprinted text at_first _ final before refl refl

-- ---- what is not shown

-- an image tells one thing of pending work
pub one_work : (image : List ℕ) (a b : Bool) → IsBytes image → TellsOfWork image a → TellsOfWork image b → a ≡ b
one_work image a b are x y =
    let parts = image_parts image x.flash x.bbram y.flash y.bbram x.image_is y.image_is in
    let same : x.root ≡ y.root = one_root_in y.bbram x.root y.root (image_bbram_bytes image y.flash y.bbram are y.image_is) (subst (λ m. RootIn m x.root) parts.1 x.holds) y.holds in
    x.pending_is ∙ ap (λ (r : Root). is_some r.pending) same ∙ sym y.pending_is

same_lines : {X : Type 0} (R : X → X → Type 0) (f : X → List ℕ) → ((a b : X) → R a b → f a ≡ f b) → (xs ys : List X) → AllZip R xs ys → map f xs ≡ map f ys
same_lines R f same [] [] all = refl
same_lines R f same [] (y ∷ ys) all = absurd all
same_lines R f same (x ∷ xs) [] all = absurd all
same_lines R f same (x ∷ xs) (y ∷ ys) all =
    let one = same x y all.0 in
    let rest = same_lines R f same xs ys all.1 in
    ap (λ l. l ∷ map f xs) one ∙ ap (λ ls. f y ∷ ls) rest

value_hidden : (region : ℕ) (a b : Secret) → DifferInValue a b → secret_shown region a ≡ secret_shown region b
value_hidden region a b alike = rw (alike.name, alike.count) refl

seed_hidden : (region : ℕ) (a b : RegionKey) → DifferInSeed a b → key_shown region a ≡ key_shown region b
seed_hidden region a b alike = rw (alike.number, alike.kind, alike.uses) refl

-- the lines that show a state, by what is shown of it
abbrev parts_shown : Bool → List ℕ → List SignedEntry → ℕ → Layers → List (List ℕ) → List (List ℕ) → List (List ℕ) → List (List ℕ) → List (List ℕ)
parts_shown pending serial log uses layers two three keys more =
    (serial_shown serial ∷ number_shown log ∷ length_shown log ∷ pending_shown pending ∷ device_shown uses ∷ []) ++ layers_shown layers ++ two ++ three ++ keys ++ more

states_alike : (pending : Bool) (one other : State) → DifferInSecrets one other → state_shown pending one ≡ state_shown pending other
unfolding state_shown
states_alike pending one other alike =
    let two = same_lines DifferInValue (secret_shown 2) (value_hidden 2) one.two.secrets other.two.secrets alike.two.secrets in
    let three = same_lines DifferInValue (secret_shown 3) (value_hidden 3) one.three.secrets other.three.secrets alike.three.secrets in
    let keys = same_lines DifferInSeed (key_shown 2) (seed_hidden 2) one.two.keys other.two.keys alike.two.keys in
    let more = same_lines DifferInSeed (key_shown 3) (seed_hidden 3) one.three.keys other.three.keys alike.three.keys in
    let a = map (secret_shown 2) one.two.secrets in
    let b = map (secret_shown 3) one.three.secrets in
    let c = map (key_shown 2) one.two.keys in
    let d = map (key_shown 3) one.three.keys in
    ap (λ (serial : List ℕ). parts_shown pending serial one.log one.uses one.layers a b c d) alike.serial
    ∙ ap (λ (log : List SignedEntry). parts_shown pending other.serial log one.uses one.layers a b c d) alike.log
    ∙ ap (λ (uses : ℕ). parts_shown pending other.serial other.log uses one.layers a b c d) alike.uses
    ∙ ap (λ (layers : Layers). parts_shown pending other.serial other.log other.uses layers a b c d) alike.layers
    ∙ ap (λ (lines : List (List ℕ)). parts_shown pending other.serial other.log other.uses other.layers lines b c d) two
    ∙ ap (λ (lines : List (List ℕ)). parts_shown pending other.serial other.log other.uses other.layers (map (secret_shown 2) other.two.secrets) lines c d) three
    ∙ ap (λ (lines : List (List ℕ)). parts_shown pending other.serial other.log other.uses other.layers (map (secret_shown 2) other.two.secrets) (map (secret_shown 3) other.three.secrets) lines d) keys
    ∙ ap (λ (lines : List (List ℕ)). parts_shown pending other.serial other.log other.uses other.layers (map (secret_shown 2) other.two.secrets) (map (secret_shown 3) other.three.secrets) (map (key_shown 2) other.two.keys) lines) more

pub secrets_not_shown : SecretsAreNotShown
secrets_not_shown image changed text line one other pending are also shows shown alike tells told =
    shows.shown ∙ ap (λ (b : Bool). text_of (state_shown b one)) (one_work image shows.pending pending are shows.tells tells)
    ∙ ap text_of (states_alike pending one other alike)
    ∙ ap (λ (b : Bool). text_of (state_shown b other)) (sym (one_work changed shown.pending pending also shown.tells told)) ∙ sym shown.shown

pub lengths_shown : LengthsAreShown
lengths_shown region one other short few named apart same =
    let m = length one.value in
    let n = length other.value in
    let region_off = append_cancel_left (codes "secret ") (decimal region ++ 32 ∷ (one.name ++ 32 ∷ decimal m)) (decimal region ++ 32 ∷ (other.name ++ 32 ∷ decimal n)) same in
    let name_off = append_cancel_left (decimal region ++ 32 ∷ []) (one.name ++ 32 ∷ decimal m) (other.name ++ 32 ∷ decimal n)
    (append_assoc (decimal region) (32 ∷ []) (one.name ++ 32 ∷ decimal m) ∙ region_off ∙ sym (append_assoc (decimal region) (32 ∷ []) (other.name ++ 32 ∷ decimal n))) in
    let last : other.name ++ 32 ∷ decimal m ≡ other.name ++ 32 ∷ decimal n = ap (λ t. t ++ 32 ∷ decimal m) (sym named) ∙ name_off in
    apart (decimal_injective m n short few (append_cancel_left (32 ∷ []) (decimal m) (decimal n) (append_cancel_left other.name (32 ∷ decimal m) (32 ∷ decimal n) last)))
