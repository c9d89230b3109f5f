-- A draft line by line: what each line leaves to be said.
use Rattle.std.proofs.Common.{◌≡◌, ◌≢◌, ℕ, ◌+◌, ◌≤◌, List, [], ◌∷◌, ◌++◌, length, refl, sym, ap, subst, ◌∙◌, arith, append_assoc, length-append}
use Rattle.std.specs.Prelude.{codes, Option, Some, None, Result, Ok, Err}
use Rattle.std.specs.Option.{ok_or}
use Rattle.std.specs.List.{AllZip}
use Rattle.std.specs.Fmt.{decimal}
use Rattle.std.proofs.lemmas.List.{append-nil, append_cancel_left}
use Rattle.mb_model.specs.declared.key.PublicKey.{PublicKey}
use Rattle.mb_model.specs.declared.layer.Trusts.{Trusts}
use Rattle.mb_model.specs.declared.order.Act.{Act}
use Rattle.mb_model.specs.declared.order.Act.TheVariants as act
use Rattle.mb_model.specs.declared.order.Target.{Target}
use Rattle.mb_model.specs.declared.order.Order.{Order}
use Rattle.mb_model.specs.signatures.Key.{key_bytes, IsSized}
use Rattle.mb_model.specs.owners.Rules.{MayBeFor}
use Rattle.mb_model.specs.chains.Lines.{spaced_words, number_limit}
use Rattle.mb_model.specs.chains.Script.{EndsInHex}
use Rattle.mb_model.specs.chains.Drafts.{SaysTarget, SaysTrusts, AreLoadLines, SayAct}
use Rattle.mb_model_lemmas.proofs.LineLemmas.{cons_same, cons_none}
use Rattle.std.proofs.lemmas.Fmt.{decimal_injective}
use Rattle.mb_model.proofs.KeyLemmas.{key_bytes-same}
use Rattle.mb_model_lemmas.proofs.WordLemmas.{IsHex-same, limited_fits}
use Rattle.mb_model_lemmas.proofs.DraftLemmas.{SaysTarget-same, target_begins, act_begins}
use Rattle.mb_words.specs.declared.said.NotSaid.{NotSaid}
use Rattle.mb_words.specs.declared.said.NotSaid.TheVariants as why
use Rattle.mb_officer.specs.declared.draft.Loading.{Loading}
use Rattle.mb_officer.specs.declared.draft.Loading.TheVariants as loading
use Rattle.mb_officer.specs.declared.draft.Kind.{Kind}
use Rattle.mb_officer.specs.declared.draft.Kind.TheVariants as kind
use Rattle.mb_officer.specs.declared.draft.Said.{Said}
use Rattle.mb_officer.specs.declared.draft.Said.TheVariants as said
use Rattle.mb_officer.proofs.Headings.{from_targets, first_is, to_targets, heading_same}
use Rattle.mb_words.specs.Words.{FindsSome}
use Rattle.mb_officer.specs.Drafting.{load_act, ordered_by, order_kind, IsHeading, drafted, IsSoundDraft, SaysTargets, SaysLoad, SaysOwner, SaysRest, LineFollows, TellsNext, AddsTarget, IsFirst}

-- ---- targets

-- after targets, a line is one more target or the first of what goes with the order
data Turn (k : Kind) (layer : ℕ) (targets : List Target) (line : List ℕ) (more : List (List ℕ)) (order : Order) : Type 0 where
  target_next : (t : Target) → SaysTarget line t → SaysTargets k layer (targets ++ t ∷ []) more order → length targets + 1 ≤ 8 → Turn k layer targets line more order
  act_next : SayAct (line ∷ more) order.act → ordered_by order.act ≡ k → order ≡ drafted layer targets order.act → Turn k layer targets line more order

turn_of : (k : Kind) (layer : ℕ) (targets : List Target) (line : List ℕ) (more : List (List ℕ)) (order : Order)
    (target_lines act_lines : List (List ℕ)) (rest : List Target)
    → line ∷ more ≡ target_lines ++ act_lines → AllZip SaysTarget target_lines rest → order.targets ≡ targets ++ rest
    → SaysTargets k layer targets (line ∷ more) order → SayAct act_lines order.act → Turn k layer targets line more order
turn_of k layer targets line more order [] act_lines [] split zip all says acts =
    let of_layer = says.of_layer in
    let of_targets = all ∙ append-nil targets in
    let unsigned = says.unsigned in
    let alone = says.alone in
    act_next (subst (λ (x : List (List ℕ)). SayAct x order.act) (sym split) acts) says.of_kind
    (λ i. record { layer = of_layer i; targets = of_targets i; act = order.act; signature = unsigned i; countersignatures = alone i })
turn_of k layer targets line more order [] act_lines (t ∷ rest) split zip all says acts = absurd zip
turn_of k layer targets line more order (first ∷ lines) act_lines [] split zip all says acts = absurd zip
turn_of k layer targets line more order (first ∷ lines) act_lines (t ∷ rest) split zip all says acts =
    let parts = cons_same line first more (lines ++ act_lines) split in
    let longer = all ∙ sym (append_assoc targets (t ∷ []) rest) in
    let count = ap length all ∙ length-append targets (t ∷ rest) in
    target_next t (subst (λ (x : List ℕ). SaysTarget x t) (sym parts.0) zip.0)
    (record {
      target_lines = lines;
      act_lines = act_lines;
      more = rest;
      spelled = parts.1;
      targeted = zip.1;
      all = longer;
      few = says.few;
      says_act = acts;
      of_kind = says.of_kind;
      of_layer = says.of_layer;
      unsigned = says.unsigned;
      alone = says.alone;
    }) (omega (arith, count, says.few))

turn : (k : Kind) (layer : ℕ) (targets : List Target) (line : List ℕ) (more : List (List ℕ)) (order : Order)
    → SaysTargets k layer targets (line ∷ more) order → Turn k layer targets line more order
turn k layer targets line more order says =
    turn_of k layer targets line more order says.target_lines says.act_lines says.more says.spelled says.targeted says.all says says.says_act

-- one target more
more_target : (k : Kind) (layer : ℕ) (targets : List Target) (line : List ℕ) (t : Target) (more : List (List ℕ)) (order : Order) → SaysTarget line t
    → SaysTargets k layer (targets ++ t ∷ []) more order → SaysTargets k layer targets (line ∷ more) order
more_target k layer targets line t more order is says = record {
  target_lines = line ∷ says.target_lines;
  act_lines = says.act_lines;
  more = t ∷ says.more;
  spelled = ap (λ (x : List (List ℕ)). line ∷ x) says.spelled;
  targeted = (is, says.targeted);
  all = says.all ∙ append_assoc targets (t ∷ []) says.more;
  few = says.few;
  says_act = says.says_act;
  of_kind = says.of_kind;
  of_layer = says.of_layer;
  unsigned = says.unsigned;
  alone = says.alone;
}

less_target : (k : Kind) (layer : ℕ) (targets : List Target) (line : List ℕ) (t : Target) (more : List (List ℕ)) (order : Order) → SaysTarget line t
    → Turn k layer targets line more order → SaysTargets k layer (targets ++ t ∷ []) more order
less_target k layer targets line t more order is (target_next other says rest room) =
    subst (λ (x : Target). SaysTargets k layer (targets ++ x ∷ []) more order) (SaysTarget-same line other t says is) rest
less_target k layer targets line t more order is (act_next says of_kind made) =
    absurd (act_begins (line ∷ more) order.act says (target_begins line t is))

pub Follows-target : (k : Kind) (layer : ℕ) (targets after : List Target) (line : List ℕ) (t : Target) → IsSoundDraft (said.Heading k layer) targets
    → SaysTarget line t → after ≡ targets ++ t ∷ [] → length targets ≢ 8
    → LineFollows (said.Heading k layer) targets line (said.Heading k layer) after
Follows-target k layer targets after line t sound is longer room =
    let count = ap length longer ∙ length-append targets (t ∷ []) in
    record {
      sound = (sound.0, omega (arith, count, sound.1, room));
      on = λ more order says. more_target k layer targets line t more order is (subst (λ (x : List Target). SaysTargets k layer x more order) longer says);
      only = λ more order says. subst (λ (x : List Target). SaysTargets k layer x more order) (sym longer)
          (less_target k layer targets line t more order is (turn k layer targets line more order says));
    }

full_turn : (k : Kind) (layer : ℕ) (targets : List Target) (line : List ℕ) (t : Target) (more : List (List ℕ)) (order : Order) → SaysTarget line t → length targets ≡ 8
    → Turn k layer targets line more order → ⊥
full_turn k layer targets line t more order is full (target_next other also rest room) = omega (arith, full, room)
full_turn k layer targets line t more order is full (act_next acts of_kind made) = act_begins (line ∷ more) order.act acts (target_begins line t is)

-- no ninth target
pub full_none : (k : Kind) (layer : ℕ) (targets : List Target) (line : List ℕ) (t : Target) → SaysTarget line t → length targets ≡ 8
    → (more : List (List ℕ)) (order : Order) → SaysTargets k layer targets (line ∷ more) order → ⊥
full_none k layer targets line t is full more order says = full_turn k layer targets line t more order is full (turn k layer targets line more order says)

pub Follows-heading : (k : Kind) (layer : ℕ) (targets : List Target) (line : List ℕ) → targets ≡ [] → IsHeading line k layer
    → LineFollows said.Nothing targets line (said.Heading k layer) targets
Follows-heading k layer targets line none is = record {
  sound = (is.0, omega (arith, ap length none));
  on = λ more order says. from_targets k layer line more order is (subst (λ (x : List Target). SaysTargets k layer x more order) none says);
  only = λ more order says.
      let same = heading_same line (ordered_by order.act) k order.layer layer (first_is line more order says) is in
      subst (λ (x : List Target). SaysTargets k layer x more order) (sym none)
      (subst (λ (x : Kind). SaysTargets x layer [] more order) same.0
      (subst (λ (x : ℕ). SaysTargets (ordered_by order.act) x [] more order) same.1 (to_targets line more order says)));
}

-- ---- what goes with an order

-- a line that is none of a target is the first of what goes with the order
act_turn : (k : Kind) (layer : ℕ) (targets : List Target) (line : List ℕ) (more : List (List ℕ)) (order : Order) → ((t : Target) → SaysTarget line t → ⊥)
    → Turn k layer targets line more order → SayAct (line ∷ more) order.act × (ordered_by order.act ≡ k) × (order ≡ drafted layer targets order.act)
act_turn k layer targets line more order none (target_next t is rest room) = absurd (none t is)
act_turn k layer targets line more order none (act_next acts of_kind made) = (acts, of_kind, made)

-- the first line of what goes with an order
pub data FirstOf (k : Kind) (layer : ℕ) (targets : List Target) (line : List ℕ) (more : List (List ℕ)) (order : Order) : Type 0 where
  owner_first : (owner : PublicKey) → k ≡ kind.Establish → IsSized owner → EndsInHex line (codes "owner" ∷ []) (key_bytes owner)
      → SaysOwner layer owner targets more order → FirstOf k layer targets line more order
  version_first : (l : Loading) (version : ℕ) → k ≡ kind.Load l → version ≤ number_limit → line ≡ spaced_words (codes "version" ∷ decimal version ∷ [])
      → SaysLoad l layer version targets more order → FirstOf k layer targets line more order

load_first : (k : Kind) (l : Loading) (layer : ℕ) (targets : List Target) (line : List ℕ) (more : List (List ℕ)) (order : Order) (version : ℕ) (trust : Trusts) (code : List ℕ)
    → AreLoadLines (line ∷ more) (record { version = version; trust = trust; code = code }) → k ≡ kind.Load l → order ≡ drafted layer targets (load_act l version trust code)
    → FirstOf k layer targets line more order
load_first k l layer targets line more order version trust code says of_kind made =
    let parts = cons_same line _ more (says.line_of_trusts ∷ says.code_line ∷ []) says.spelled in
    version_first l version of_kind says.version_fits parts.0
    (record {
      trust = trust;
      line_of_trusts = says.line_of_trusts;
      trusted = says.trusted;
      remaining = says.code_line ∷ [];
      spelled = parts.1;
      coded = record { line = says.code_line; code = code; coded = says.coded; fits = says.code_fits; spelled = refl; made = made };
    })

first_of : (k : Kind) (layer : ℕ) (targets : List Target) (line : List ℕ) (more : List (List ℕ)) (order : Order) (a : Act) → SayAct (line ∷ more) a
    → ordered_by a ≡ k → order ≡ drafted layer targets a → FirstOf k layer targets line more order
first_of k layer targets line more order (act.Establish owner trust) says of_kind made =
    let parts = cons_same line says.owner_line more (says.line_of_trusts ∷ []) says.spelled in
    owner_first owner (sym of_kind) says.sized (says.owned.0, says.owned.1, parts.0 ∙ says.owned.2)
    (record { trust = trust; line_of_trusts = says.line_of_trusts; trusted = says.trusted; spelled = parts.1; made = made })
first_of k layer targets line more order act.Surrender says of_kind made = absurd (cons_none line more (sym says))
first_of k layer targets line more order (act.Load payload) says of_kind made =
    load_first k loading.Ordinary layer targets line more order payload.version payload.trust payload.code says (sym of_kind) made
first_of k layer targets line more order (act.Emergency payload) says of_kind made =
    load_first k loading.Emergency layer targets line more order payload.version payload.trust payload.code says (sym of_kind) made
first_of k layer targets line more order (act.NewKey key) says of_kind made = absurd (cons_none line more (sym says))

first_after : (k : Kind) (layer : ℕ) (targets : List Target) (line : List ℕ) (more : List (List ℕ)) (order : Order) → ((t : Target) → SaysTarget line t → ⊥)
    → SaysTargets k layer targets (line ∷ more) order → FirstOf k layer targets line more order
first_after k layer targets line more order none says =
    let at = act_turn k layer targets line more order none (turn k layer targets line more order says) in
    first_of k layer targets line more order order.act at.0 at.1 at.2

nowhere : (k : Kind) (layer : ℕ) (targets : List Target) (line : List ℕ) (more : List (List ℕ)) (order : Order) → ((s : Said) → IsFirst k layer line s → ⊥)
    → FirstOf k layer targets line more order → ⊥
nowhere k layer targets line more order nothing (owner_first owner of_kind sized owned rest) = nothing (said.Owner layer owner) (of_kind, refl, sized, owned)
nowhere k layer targets line more order nothing (version_first l version of_kind fits spelled rest) =
    nothing (said.Version l layer version) (of_kind, refl, fits, spelled)

-- a line with no first word of what goes with an order leads nowhere
pub first_none : (k : Kind) (layer : ℕ) (targets : List Target) (line : List ℕ) → ((t : Target) → SaysTarget line t → ⊥)
    → ((s : Said) → IsFirst k layer line s → ⊥) → (more : List (List ℕ)) (order : Order) → SaysTargets k layer targets (line ∷ more) order → ⊥
first_none k layer targets line none nothing more order says = nowhere k layer targets line more order nothing (first_after k layer targets line more order none says)

pub establish_load : (l : Loading) → kind.Establish ≡ kind.Load l → ⊥
establish_load l e = cc

load_same : (j l : Loading) → kind.Load j ≡ kind.Load l → j ≡ l
load_same j l e = cc

load_lines : (line : List ℕ) (more : List (List ℕ)) (version : ℕ) (trust : Trusts) (line_of_trusts : List ℕ) → SaysTrusts line_of_trusts trust → (code_line code : List ℕ) (remaining : List (List ℕ)) → EndsInHex code_line (codes "code" ∷ []) code
    → length code ≤ 32768 → version ≤ number_limit → line ≡ spaced_words (codes "version" ∷ decimal version ∷ []) → more ≡ line_of_trusts ∷ remaining → remaining ≡ code_line ∷ []
    → AreLoadLines (line ∷ more) (record { version = version; trust = trust; code = code })
load_lines line more version trust line_of_trusts trusted code_line code remaining coded fits small spelled second third = record {
  code_line = code_line;
  coded = coded;
  code_fits = fits;
  version_fits = small;
  line_of_trusts = line_of_trusts;
  trusted = trusted;
  spelled =
      let head = spelled in
      let rest = second in
      let last = third in
      cc;
}

-- lines that say what goes with an order, after the targets that were read
pub says_only_act : (k : Kind) (layer : ℕ) (targets : List Target) (lines : List (List ℕ)) (a : Act) → length targets ≤ 8 → SayAct lines a → ordered_by a ≡ k
    → SaysTargets k layer targets lines (drafted layer targets a)
says_only_act k layer targets lines a room says is = record {
  target_lines = [];
  act_lines = lines;
  more = [];
  spelled = refl;
  targeted = tt;
  all = sym (append-nil targets);
  few = room;
  says_act = says;
  of_kind = is;
  of_layer = refl;
  unsigned = refl;
  alone = refl;
}

-- ---- the new owner

pub from_owner : (layer : ℕ) (targets : List Target) (line : List ℕ) (owner : PublicKey) (more : List (List ℕ)) (order : Order) → length targets ≤ 8 → IsSized owner
    → EndsInHex line (codes "owner" ∷ []) (key_bytes owner) → SaysOwner layer owner targets more order → SaysTargets kind.Establish layer targets (line ∷ more) order
from_owner layer targets line owner more order room sized owned says =
    let made = sym says.made in
    subst (λ (x : Order). SaysTargets kind.Establish layer targets (line ∷ more) x) made
    (says_only_act kind.Establish layer targets (line ∷ more) (act.Establish owner says.trust) room
    (record { owner_line = line; owned = owned; sized = sized; line_of_trusts = says.line_of_trusts; trusted = says.trusted; spelled = ap (λ (x : List (List ℕ)). line ∷ x) says.spelled }) refl)

to_owner : (layer : ℕ) (targets : List Target) (line : List ℕ) (owner : PublicKey) (more : List (List ℕ)) (order : Order) → IsSized owner
    → EndsInHex line (codes "owner" ∷ []) (key_bytes owner) → FirstOf kind.Establish layer targets line more order → SaysOwner layer owner targets more order
to_owner layer targets line owner more order sized owned (owner_first other of_kind also_sized also_owned rest) =
    let word = append_cancel_left (codes "owner ") also_owned.0 owned.0 (sym also_owned.2 ∙ owned.2) in
    let bytes = IsHex-same also_owned.0 owned.0 (key_bytes other) (key_bytes owner) word also_owned.1 owned.1 in
    let same = key_bytes-same other owner also_sized sized bytes in
    subst (λ (x : PublicKey). SaysOwner layer x targets more order) same rest
to_owner layer targets line owner more order sized owned (version_first l version of_kind fits spelled rest) = absurd (establish_load l of_kind)

Follows-owner : (k : Kind) (layer n : ℕ) (targets : List Target) (line : List ℕ) (owner : PublicKey) → ((t : Target) → SaysTarget line t → ⊥)
    → IsSoundDraft (said.Heading k layer) targets → k ≡ kind.Establish → n ≡ layer → IsSized owner → EndsInHex line (codes "owner" ∷ []) (key_bytes owner)
    → LineFollows (said.Heading k layer) targets line (said.Owner n owner) targets
Follows-owner k layer n targets line owner none sound is_kind same sized owned =
    subst (λ (x : ℕ). LineFollows (said.Heading k layer) targets line (said.Owner x owner) targets) (sym same)
    (subst (λ (x : Kind). LineFollows (said.Heading x layer) targets line (said.Owner layer owner) targets) (sym is_kind)
    (record {
      sound = (subst (λ (x : Kind). MayBeFor (order_kind x) layer) is_kind sound.0, sound.1, sized);
      on = λ more order says. from_owner layer targets line owner more order sound.1 sized owned says;
      only = λ more order says. to_owner layer targets line owner more order sized owned (first_after kind.Establish layer targets line more order none says);
    }))

-- ---- the version of a load

pub from_version : (l : Loading) (layer : ℕ) (targets : List Target) (line : List ℕ) (version : ℕ) (more : List (List ℕ)) (order : Order) → length targets ≤ 8
    → version ≤ number_limit → line ≡ spaced_words (codes "version" ∷ decimal version ∷ []) → SaysLoad l layer version targets more order
    → SaysTargets (kind.Load l) layer targets (line ∷ more) order
from_version loading.Ordinary layer targets line version more order room fits spelled says =
    subst (λ (x : Order). SaysTargets (kind.Load loading.Ordinary) layer targets (line ∷ more) x) (sym says.coded.made)
    (says_only_act (kind.Load loading.Ordinary) layer targets (line ∷ more) (act.Load (record { version = version; trust = says.trust; code = says.coded.code })) room
    (load_lines line more version says.trust says.line_of_trusts says.trusted says.coded.line says.coded.code says.remaining says.coded.coded says.coded.fits fits spelled says.spelled says.coded.spelled) refl)
from_version loading.Emergency layer targets line version more order room fits spelled says =
    subst (λ (x : Order). SaysTargets (kind.Load loading.Emergency) layer targets (line ∷ more) x) (sym says.coded.made)
    (says_only_act (kind.Load loading.Emergency) layer targets (line ∷ more) (act.Emergency (record { version = version; trust = says.trust; code = says.coded.code })) room
    (load_lines line more version says.trust says.line_of_trusts says.trusted says.coded.line says.coded.code says.remaining says.coded.coded says.coded.fits fits spelled says.spelled says.coded.spelled) refl)

to_version : (l : Loading) (layer : ℕ) (targets : List Target) (line : List ℕ) (version : ℕ) (more : List (List ℕ)) (order : Order) → version ≤ number_limit
    → line ≡ spaced_words (codes "version" ∷ decimal version ∷ []) → FirstOf (kind.Load l) layer targets line more order → SaysLoad l layer version targets more order
to_version l layer targets line version more order fits spelled (owner_first other of_kind also_sized also_owned rest) = absurd (establish_load l (sym of_kind))
to_version l layer targets line version more order fits spelled (version_first j number of_kind small is rest) =
    let word = append_cancel_left (codes "version ") (decimal number) (decimal version) (sym is ∙ spelled) in
    let same = decimal_injective number version (limited_fits number small) (limited_fits version fits) word in
    let loads = load_same j l (sym of_kind) in
    subst (λ (x : ℕ). SaysLoad l layer x targets more order) same (subst (λ (x : Loading). SaysLoad x layer number targets more order) loads rest)

Follows-version : (k : Kind) (layer : ℕ) (l : Loading) (n : ℕ) (targets : List Target) (line : List ℕ) (version : ℕ) → ((t : Target) → SaysTarget line t → ⊥)
    → IsSoundDraft (said.Heading k layer) targets → k ≡ kind.Load l → n ≡ layer → version ≤ number_limit → line ≡ spaced_words (codes "version" ∷ decimal version ∷ [])
    → LineFollows (said.Heading k layer) targets line (said.Version l n version) targets
Follows-version k layer l n targets line version none sound is_kind same fits spelled =
    subst (λ (x : ℕ). LineFollows (said.Heading k layer) targets line (said.Version l x version) targets) (sym same)
    (subst (λ (x : Kind). LineFollows (said.Heading x layer) targets line (said.Version l layer version) targets) (sym is_kind)
    (record {
      sound = (subst (λ (x : Kind). MayBeFor (order_kind x) layer) is_kind sound.0, sound.1, fits);
      on = λ more order says. from_version l layer targets line version more order sound.1 fits spelled says;
      only = λ more order says. to_version l layer targets line version more order fits spelled (first_after (kind.Load l) layer targets line more order none says);
    }))

-- ---- trust and code

pub Follows-code : (l : Loading) (layer version : ℕ) (trust : Trusts) (targets : List Target) (line code : List ℕ) (a : Act)
    → IsSoundDraft (said.Trust l layer version trust) targets → length code ≤ 32768 → EndsInHex line (codes "code" ∷ []) code → a ≡ load_act l version trust code
    → LineFollows (said.Trust l layer version trust) targets line (said.All layer a) targets
Follows-code l layer version trust targets line code a sound fits coded is =
    subst (λ (x : Act). LineFollows (said.Trust l layer version trust) targets line (said.All layer x) targets) (sym is)
    (record {
      sound = sound.1;
      on = λ more order says. record { line = line; code = code; coded = coded; fits = fits; spelled = ap (λ (x : List (List ℕ)). line ∷ x) says.0; made = says.1 };
      only = λ more order says.
          let parts = cons_same line says.line more [] says.spelled in
          let word = append_cancel_left (codes "code ") says.coded.0 coded.0 (sym says.coded.2 ∙ sym parts.0 ∙ coded.2) in
          let same = IsHex-same says.coded.0 coded.0 says.code code word says.coded.1 coded.1 in
          (parts.1, says.made ∙ ap (λ (x : List ℕ). drafted layer targets (load_act l version trust x)) same);
    })

pub all_none : (layer : ℕ) (a : Act) (targets : List Target) (line : List ℕ) (more : List (List ℕ)) (order : Order)
    → SaysRest (said.All layer a) targets (line ∷ more) order → ⊥
all_none layer a targets line more order says = cons_none line more (sym says.0)

pub Follows-first : (k : Kind) (layer : ℕ) (targets : List Target) (line : List ℕ) (s : Said) → ((t : Target) → SaysTarget line t → ⊥)
    → IsSoundDraft (said.Heading k layer) targets → IsFirst k layer line s → LineFollows (said.Heading k layer) targets line s targets
Follows-first k layer targets line said.Nothing none sound is = absurd is
Follows-first k layer targets line (said.Heading j n) none sound is = absurd is
Follows-first k layer targets line (said.Owner n owner) none sound is = Follows-owner k layer n targets line owner none sound is.0 is.1 is.2 is.3
Follows-first k layer targets line (said.Version l n version) none sound is = Follows-version k layer l n targets line version none sound is.0 is.1 is.2 is.3
Follows-first k layer targets line (said.Trust l n version trust) none sound is = absurd is
Follows-first k layer targets line (said.All n a) none sound is = absurd is

-- ---- one line more, by what was read before

pub sound_at : (s t : Said) (targets : List Target) → s ≡ t → IsSoundDraft s targets → IsSoundDraft t targets
sound_at s t targets e sound = subst (λ (x : Said). IsSoundDraft x targets) e sound

pub rest_at : (s t : Said) (targets : List Target) (lines : List (List ℕ)) (order : Order) → s ≡ t → SaysRest s targets lines order → SaysRest t targets lines order
rest_at s t targets lines order e says = subst (λ (x : Said). SaysRest x targets lines order) e says

pub tells : (s t : Said) (targets a b : List Target) (line : List ℕ) (r q : Result Said NotSaid) → s ≡ t → r ≡ q → a ≡ b → TellsNext t targets line q b → TellsNext s targets line r a
tells s t targets a b line r q said_is result_is targets_is told =
    subst (λ (x : Said). TellsNext x targets line r a) (sym said_is)
    (subst (λ (x : Result Said NotSaid). TellsNext t targets line x a) (sym result_is)
    (subst (λ (x : List Target). TellsNext t targets line q x) (sym targets_is) told))

pub add_tells : (k : Kind) (layer : ℕ) (targets after : List Target) (line : List ℕ) (t : Target) (r : Result Said NotSaid) → IsSoundDraft (said.Heading k layer) targets
    → SaysTarget line t → AddsTarget k layer targets t r after → TellsNext (said.Heading k layer) targets line r after
add_tells k layer targets after line t (Ok next) sound is adds =
    subst (λ (x : Said). LineFollows (said.Heading k layer) targets line x after) (sym adds.0) (Follows-target k layer targets after line t sound is adds.1 adds.2)
add_tells k layer targets after line t (Err why.Form) sound is adds = full_none k layer targets line t is adds
add_tells k layer targets after line t (Err why.NoMemory) sound is adds = tt

first_found : (k : Kind) (layer : ℕ) (targets : List Target) (line : List ℕ) (r : Option Said) → ((t : Target) → SaysTarget line t → ⊥)
    → IsSoundDraft (said.Heading k layer) targets → FindsSome (IsFirst k layer line) r → TellsNext (said.Heading k layer) targets line (ok_or r why.Form) targets
first_found k layer targets line (Some s) none sound is = Follows-first k layer targets line s none sound is
first_found k layer targets line None none sound nothing = first_none k layer targets line none nothing

-- the first line after the targets, where it is none of a target
pub first_tells : (k : Kind) (layer : ℕ) (targets : List Target) (line : List ℕ) (r : Option Said) (told : Result Said NotSaid) → ((t : Target) → SaysTarget line t → ⊥)
    → IsSoundDraft (said.Heading k layer) targets → FindsSome (IsFirst k layer line) r → told ≡ ok_or r why.Form → TellsNext (said.Heading k layer) targets line told targets
first_tells k layer targets line r told none sound found is =
    subst (λ (x : Result Said NotSaid). TellsNext (said.Heading k layer) targets line x targets) (sym is) (first_found k layer targets line r none sound found)

-- a line that is not in the grammar
pub form_tells : (s : Said) (targets after : List Target) (line : List ℕ) (e : NotSaid) → e ≡ why.Form → TellsNext s targets line (Err e) after
    → (more : List (List ℕ)) (order : Order) → SaysRest s targets (line ∷ more) order → ⊥
form_tells s targets after line e is told = subst (λ (x : NotSaid). TellsNext s targets line (Err x) after) is told
