-- A whole draft: where it may end, and which line is the first that is wrong.
use Rattle.std.proofs.Common.{◌≡◌, ℕ, ◌+◌, ◌<◌, ◌≤◌, inl, inr, List, [], ◌∷◌, ◌++◌, length, refl, sym, ap, subst, ◌∙◌, arith, append_assoc, length-append, replicate, lit≤}
use Rattle.std.specs.Prelude.{codes}
use Rattle.std.specs.List.{AllZip}
use Rattle.std.specs.Fmt.{decimal}
use Rattle.std.proofs.lemmas.List.{append-nil}
use Rattle.mb_model.specs.declared.key.PublicKey.{PublicKey}
use Rattle.mb_model.specs.declared.key.Tree.TheVariants.{H5}
use Rattle.mb_model.specs.declared.key.Chains.TheVariants.{W4}
use Rattle.mb_model.specs.declared.layer.Trusts.{Trusts}
use Rattle.mb_model.specs.owners.Layers.{equal_trusts}
use Rattle.mb_model.specs.declared.key.Trust.TheVariants.{Always}
use Rattle.mb_model.specs.declared.order.Act.{Act}
use Rattle.mb_model.specs.declared.order.Act.TheVariants as act
use Rattle.mb_model.specs.declared.order.Target.{Target}
use Rattle.mb_model.specs.declared.order.Order.{Order}
use Rattle.mb_model.specs.signatures.Key.{key_bytes}
use Rattle.mb_model.specs.chains.Lines.{HasLines, spaced_words, IsBeginning, bad_line, ends_early, ReadsLines}
use Rattle.mb_model.specs.chains.Lines.{TextFailsAtLine}
use Rattle.mb_model.specs.chains.Drafts.{SaysTarget, SayAct, IsDraft}
use Rattle.hex.specs.Hex.{decode_pairs}
use Rattle.mb_model.specs.outside.Texts.{IsHex}
use Rattle.mb_model_lemmas.proofs.LineLemmas.{cons_none, HasLines-nil, HasLines-always}
use Rattle.mb_model.specs.declared.order.KeyKind.{KeyKind}
use Rattle.mb_officer.specs.declared.draft.Loading.{Loading}
use Rattle.mb_officer.specs.declared.draft.Kind.{Kind}
use Rattle.mb_officer.specs.declared.draft.Kind.TheVariants as kind
use Rattle.mb_officer.specs.declared.draft.Said.{Said}
use Rattle.mb_officer.specs.declared.draft.Said.TheVariants as said
use Rattle.mb_words.proofs.NextLines.{with_line}
use Rattle.mb_words.specs.Words.{SplitsLine}
use Rattle.mb_officer.specs.Drafting.{load_act, ordered_by, heading_line, drafted, IsSoundDraft, SaysTargets, SaysCode, SaysLoad, SaysOwner, SaysRest, LineFollows}
use Rattle.mb_officer.proofs.Lines.{says_only_act, establish_load, from_owner, from_version}
use Rattle.mb_officer.proofs.Headings.{from_targets}

-- ---- the end of the text

finish_of : (k : Kind) (layer : ℕ) (targets : List Target) (order : Order) (target_lines act_lines : List (List ℕ)) (rest : List Target)
    → [] ≡ target_lines ++ act_lines → AllZip SaysTarget target_lines rest → order.targets ≡ targets ++ rest
    → SaysTargets k layer targets [] order → SayAct act_lines order.act
    → SayAct [] order.act × (ordered_by order.act ≡ k) × (order ≡ drafted layer targets order.act)
finish_of k layer targets order [] act_lines [] split zip all says acts =
    let of_layer = says.of_layer in
    let of_targets = all ∙ append-nil targets in
    let unsigned = says.unsigned in
    let alone = says.alone in (
      subst (λ (x : List (List ℕ)). SayAct x order.act) (sym split) acts,
      says.of_kind,
      λ i. record { layer = of_layer i; targets = of_targets i; act = order.act; signature = unsigned i; countersignatures = alone i },
    )
finish_of k layer targets order [] act_lines (t ∷ rest) split zip all says acts = absurd zip
finish_of k layer targets order (first ∷ lines) act_lines rest split zip all says acts = absurd (cons_none first (lines ++ act_lines) split)

load_more : (l : Loading) (a : Act) → SayAct [] a → ordered_by a ≡ kind.Load l → ⊥
load_more l (act.Establish owner trust) says of_kind = establish_load l of_kind
load_more l act.Surrender says of_kind = cc
load_more l (act.Load payload) says of_kind = cons_none _ (says.line_of_trusts ∷ says.code_line ∷ []) says.spelled
load_more l (act.Emergency payload) says of_kind = cons_none _ (says.line_of_trusts ∷ says.code_line ∷ []) says.spelled
load_more l (act.NewKey key) says of_kind = cc

establish_more : (a : Act) → SayAct [] a → ordered_by a ≡ kind.Establish → ⊥
establish_more (act.Establish owner trust) says of_kind = cons_none says.owner_line (says.line_of_trusts ∷ []) says.spelled
establish_more act.Surrender says of_kind = cc
establish_more (act.Load payload) says of_kind = cc
establish_more (act.Emergency payload) says of_kind = cc
establish_more (act.NewKey key) says of_kind = cc

finish_targets : (k : Kind) (layer : ℕ) (targets : List Target) (order : Order) → SaysTargets k layer targets [] order
    → SayAct [] order.act × (ordered_by order.act ≡ k) × (order ≡ drafted layer targets order.act)
finish_targets k layer targets order says = finish_of k layer targets order says.target_lines says.act_lines says.more says.spelled says.targeted says.all says says.says_act

pub load_unfinished : (l : Loading) (layer : ℕ) (targets : List Target) (order : Order) → SaysTargets (kind.Load l) layer targets [] order → ⊥
load_unfinished l layer targets order says =
    let at = finish_targets (kind.Load l) layer targets order says in
    load_more l order.act at.0 at.1

pub establish_unfinished : (layer : ℕ) (targets : List Target) (order : Order) → SaysTargets kind.Establish layer targets [] order → ⊥
establish_unfinished layer targets order says =
    let at = finish_targets kind.Establish layer targets order says in
    establish_more order.act at.0 at.1

pub surrender_finished : (layer : ℕ) (targets : List Target) → length targets ≤ 8 → SaysTargets kind.Surrender layer targets [] (drafted layer targets act.Surrender)
surrender_finished layer targets room = says_only_act kind.Surrender layer targets [] act.Surrender room refl refl

pub new_key_finished : (key : KeyKind) (layer : ℕ) (targets : List Target) → length targets ≤ 8
    → SaysTargets (kind.NewKey key) layer targets [] (drafted layer targets (act.NewKey key))
new_key_finished key layer targets room = says_only_act (kind.NewKey key) layer targets [] (act.NewKey key) room refl refl

pub heading_at : (s : Said) (k j : Kind) (layer : ℕ) → s ≡ said.Heading k layer → k ≡ j → s ≡ said.Heading j layer
heading_at s k j layer e f = e ∙ ap (λ (x : Kind). said.Heading x layer) f

pub finished : (s t : Said) (targets : List Target) (order made : Order) → s ≡ t → order ≡ made → SaysRest t targets [] made → SaysRest s targets [] order
finished s t targets order made e f says =
    subst (λ (x : Said). SaysRest x targets [] order) (sym e) (subst (λ (x : Order). SaysRest t targets [] x) (sym f) says)

-- ---- lines that were read begin a draft

-- some key, by which a draft can go on
abbrev some_key : PublicKey
some_key = record { tree = H5; chains = W4; identifier = replicate 16 0; root = replicate 32 0 }

-- something completes what was read
record Ends (s : Said) (targets : List Target) : Type 0 where
  more : List (List ℕ)
  order : Order
  says : SaysRest s targets more order

ends_code : (l : Loading) (layer version : ℕ) (trust : Trusts) (targets : List Target) → SaysCode l layer version trust targets (codes "code -" ∷ []) (drafted layer targets (load_act l version trust []))
ends_code l layer version trust targets = record {
  line = codes "code -";
  code = [];
  coded = (codes "-", inl (refl, refl), refl);
  fits = omega arith;
  spelled = refl;
  made = refl;
}

ends_load : (l : Loading) (layer version : ℕ) (targets : List Target)
    → SaysLoad l layer version targets (codes "trust always" ∷ codes "code -" ∷ []) (drafted layer targets (load_act l version (equal_trusts Always) []))
ends_load l layer version targets = record {
  trust = equal_trusts Always;
  line_of_trusts = codes "trust always";
  trusted = inr (refl, refl);
  remaining = codes "code -" ∷ [];
  spelled = refl;
  coded = ends_code l layer version (equal_trusts Always) targets;
}

ends_owner : (layer : ℕ) (owner : PublicKey) (targets : List Target)
    → SaysOwner layer owner targets (codes "trust always" ∷ []) (drafted layer targets (act.Establish owner (equal_trusts Always)))
ends_owner layer owner targets = record { trust = equal_trusts Always; line_of_trusts = codes "trust always"; trusted = inr (refl, refl); spelled = refl; made = refl }

abbrev some_word : List ℕ
some_word = codes "0000000500000003000000000000000000000000000000000000000000000000000000000000000000000000000000000000000000000000"

some_hex : IsHex some_word (key_bytes some_key)
unfolding decode_pairs key_bytes
some_hex = inr ((λ none. cons_none 48 _ (sym none)), refl)

ends_heading : (k : Kind) (layer : ℕ) (targets : List Target) → length targets ≤ 8 → Ends (said.Heading k layer) targets
ends_heading kind.Establish layer targets room = record {
  more = (codes "owner " ++ some_word) ∷ codes "trust always" ∷ [];
  order = drafted layer targets (act.Establish some_key (equal_trusts Always));
  says = from_owner layer targets (codes "owner " ++ some_word) some_key (codes "trust always" ∷ []) (drafted layer targets (act.Establish some_key (equal_trusts Always))) room
      (record { identifier = refl; root = refl }) (some_word, some_hex, refl) (ends_owner layer some_key targets);
}
ends_heading kind.Surrender layer targets room = record {
  more = [];
  order = drafted layer targets act.Surrender;
  says = surrender_finished layer targets room;
}
ends_heading (kind.Load l) layer targets room = record {
  more = spaced_words (codes "version" ∷ decimal 0 ∷ []) ∷ codes "trust always" ∷ codes "code -" ∷ [];
  order = drafted layer targets (load_act l 0 (equal_trusts Always) []);
  says = from_version l layer targets (spaced_words (codes "version" ∷ decimal 0 ∷ [])) 0 (codes "trust always" ∷ codes "code -" ∷ [])
      (drafted layer targets (load_act l 0 (equal_trusts Always) [])) room (omega arith) refl (ends_load l layer 0 targets);
}
ends_heading (kind.NewKey key) layer targets room = record {
  more = [];
  order = drafted layer targets (act.NewKey key);
  says = new_key_finished key layer targets room;
}

ends : (s : Said) (targets : List Target) → IsSoundDraft s targets → Ends s targets
ends said.Nothing targets none = record {
  more = heading_line kind.Surrender 2 ∷ [];
  order = drafted 2 [] act.Surrender;
  says = from_targets kind.Surrender 2 (heading_line kind.Surrender 2) [] (drafted 2 [] act.Surrender) ((lit≤ tt, lit≤ tt), refl) (surrender_finished 2 [] (omega arith));
}
ends (said.Heading k layer) targets sound = ends_heading k layer targets sound.1
ends (said.Owner layer owner) targets sound = record {
  more = codes "trust always" ∷ [];
  order = drafted layer targets (act.Establish owner (equal_trusts Always));
  says = ends_owner layer owner targets;
}
ends (said.Version l layer version) targets sound = record {
  more = codes "trust always" ∷ codes "code -" ∷ [];
  order = drafted layer targets (load_act l version (equal_trusts Always) []);
  says = ends_load l layer version targets;
}
ends (said.Trust l layer version trust) targets sound = record {
  more = codes "code -" ∷ [];
  order = drafted layer targets (load_act l version trust []);
  says = ends_code l layer version trust targets;
}
ends (said.All layer a) targets sound = record { more = []; order = drafted layer targets a; says = (refl, refl) }

-- ---- the whole text

-- so far a text was read: these lines, which leave this to be said
pub record HasRead (text rest : List ℕ) (number : ℕ) (s : Said) (targets : List Target) : Type 0 where
  pub before : List (List ℕ)
  pub counted : number ≡ length before + 1
  pub lines : (remaining : List (List ℕ)) → HasLines rest remaining → HasLines text (before ++ remaining)
  pub sound : IsSoundDraft s targets
  pub on : (more : List (List ℕ)) (order : Order) → SaysRest s targets more order → IsDraft (before ++ more) order
  pub only : (more : List (List ℕ)) (order : Order) → IsDraft (before ++ more) order → SaysRest s targets more order

longer : (before : List (List ℕ)) (line : List ℕ) (more : List (List ℕ)) → (before ++ line ∷ []) ++ more ≡ before ++ line ∷ more
longer before line more = append_assoc before (line ∷ []) more

pub HasRead-step : (text rest line later : List ℕ) (number next_number : ℕ) (s next : Said) (targets after : List Target) → HasRead text rest number s targets
    → SplitsLine rest line later → 0 < length rest → LineFollows s targets line next after → next_number ≡ number + 1 → HasRead text later next_number next after
HasRead-step text rest line later number next_number s next targets after read splits some follows counts = record {
  before = read.before ++ line ∷ [];
  counted = omega (arith, counts, read.counted, length-append read.before (line ∷ []));
  lines = λ remaining has.
      subst (λ (x : List (List ℕ)). HasLines text x) (sym (longer read.before line remaining))
      (read.lines (line ∷ remaining) (with_line rest line later remaining splits some has));
  sound = follows.sound;
  on = λ more order says.
      subst (λ (x : List (List ℕ)). IsDraft x order) (sym (longer read.before line more)) (read.on (line ∷ more) order (follows.on more order says));
  only = λ more order is.
      follows.only more order (read.only (line ∷ more) order (subst (λ (x : List (List ℕ)). IsDraft x order) (longer read.before line more) is));
}

begins_so : (text rest : List ℕ) (number : ℕ) (s : Said) (targets : List Target) (read : HasRead text rest number s targets) → IsBeginning IsDraft read.before
begins_so text rest number s targets read =
    let end = ends s targets read.sound in
    record { more = end.more; value = end.order; stands = read.on end.more end.order end.says }

pub HasRead-bad : (text rest line later : List ℕ) (number : ℕ) (s : Said) (targets : List Target) → HasRead text rest number s targets
    → SplitsLine rest line later → 0 < length rest → ((more : List (List ℕ)) (order : Order) → SaysRest s targets (line ∷ more) order → ⊥)
    → TextFailsAtLine IsDraft text number
HasRead-bad text rest line later number s targets read splits some none =
    let remaining = HasLines-always later in
    record {
      lines = read.before ++ line ∷ remaining.0;
      has = read.lines (line ∷ remaining.0) (with_line rest line later remaining.0 splits some remaining.1);
      fails = bad_line (record {
        before = read.before;
        line = line;
        later = remaining.0;
        split = refl;
        good = begins_so text rest number s targets read;
        bad = λ begins.
            none begins.more begins.value
            (read.only (line ∷ begins.more) begins.value
            (subst (λ (x : List (List ℕ)). IsDraft x begins.value) (longer read.before line begins.more) begins.stands));
        number = read.counted;
      });
    }

all_read : (text rest : List ℕ) (number : ℕ) (s : Said) (targets : List Target) (read : HasRead text rest number s targets) → rest ≡ [] → HasLines text read.before
all_read text rest number s targets read none =
    subst (λ (x : List (List ℕ)). HasLines text x) (append-nil read.before)
    (read.lines [] (subst (λ (x : List ℕ). HasLines x []) (sym none) HasLines-nil))

pub HasRead-end : (text rest : List ℕ) (number : ℕ) (s : Said) (targets : List Target) (order : Order) → HasRead text rest number s targets → rest ≡ []
    → SaysRest s targets [] order → ReadsLines IsDraft text order
HasRead-end text rest number s targets order read none says = record {
  lines = read.before;
  has = all_read text rest number s targets read none;
  stands = subst (λ (x : List (List ℕ)). IsDraft x order) (append-nil read.before) (read.on [] order says);
}

pub HasRead-short : (text rest : List ℕ) (number : ℕ) (s : Said) (targets : List Target) → HasRead text rest number s targets → rest ≡ []
    → ((order : Order) → SaysRest s targets [] order → ⊥) → TextFailsAtLine IsDraft text number
HasRead-short text rest number s targets read none nothing = record {
  lines = read.before;
  has = all_read text rest number s targets read none;
  fails = ends_early (record {
    good = begins_so text rest number s targets read;
    unfinished = λ order is. nothing order (read.only [] order (subst (λ (x : List (List ℕ)). IsDraft x order) (sym (append-nil read.before)) is));
    number = read.counted;
  });
}
