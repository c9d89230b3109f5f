-- Laws of `endorse` and `endorsed`. Is what a maker has endorsed accepted, and does a maker's KEY endorse twice with
-- one number?
use Rattle.std.specs.Prelude.{◌≡◌, ◌≢◌, ◌<◌, ◌⊎◌, ◌^◌, ℕ, List, [], ◌∷◌, AllPairs, codes, Some}
use Rattle.mb_format.specs.Format.{Format, IsBytes, Spells}
use Rattle.mb_model.specs.declared.key.PublicKey.{PublicKey}
use Rattle.mb_model.specs.records.KeyFormat.{public_key_format}
use Rattle.mb_model.specs.outside.Texts.{line_with_lf}
use Rattle.mb_model_commands.specs.Commands.{Past, Ended, CommandEnds, at_first, IsFaultless}
use Rattle.mb_model_commands.specs.Outside.{Adds}
use Rattle.mb_model_histories.specs.KeyFileLaws.{Files}
use Rattle.mb_hss.specs.declared.key.HssKey.{HssKey}
use Rattle.mb_hss.specs.declared.maker.Maker.{Maker}
use Rattle.mb_hss.specs.HssKeyFormat.{hss_key_format}
use Rattle.mb_hss.specs.MakerFormat.{maker_format}
use Rattle.mb_hss.specs.MakerKeys.{maker_key}
use Rattle.mb_hss.specs.MakerSignatures.{maker_signature}
use Rattle.mb_tools_hss.specs.Endorse.{EndorseNames, endorse, endorsed_text, number_used}
use Rattle.mb_tools_hss.specs.Endorsed.{EndorsedNames, endorsed}

-- the file of this name holds bytes that spell the value
abbrev pub HoldsValue : {A : Type 0} → Format A → Files → List ℕ → A → Type 0
HoldsValue format files name value =
    (bytes : List ℕ) × (files name ≡ Some bytes) × IsBytes bytes × Spells format bytes value

-- ---- what is accepted

-- A call of `endorsed`, over a host that shows its files: PUBLIC is this maker's key, ROOT the root key, and
-- ENDORSEMENT these bytes. No call of the host failed.
pub record JudgesEndorsement
    (key : HssKey)
    (root : PublicKey)
    (endorsement : List ℕ)
    (names : EndorsedNames)
    (past : Past)
    (judged : Ended) : Type 0 where
  pub files : Files
  pub shown : judged.before.files ≡ Some files
  pub public : HoldsValue hss_key_format files names.public key
  pub root_held : HoldsValue public_key_format files names.root root
  pub endorsement_held : files names.endorsement ≡ Some endorsement
  pub faultless : IsFaultless judged.before judged.after
  pub ends : CommandEnds (endorsed names) past judged

-- the call is done, and has printed `endorsed`
pub record SaysEndorsed (judged : Ended) : Type 0 where
  pub status : judged.status ≡ 0
  pub printed : Adds judged.before judged.after (line_with_lf (codes "endorsed"))

-- What `endorse` leaves in OUT at status 0 is accepted by each call of `endorsed` under that maker's key and for that
-- root key, unless memory is lacking.
abbrev pub EndorsementsAreAccepted : Type 0
EndorsementsAreAccepted =
    (names : EndorseNames) (made : Ended) (before after : Files) (maker : Maker) (root : PublicKey)
    → CommandEnds (endorse names) at_first made → made.before.files ≡ Some before → made.after.files ≡ Some after
    → HoldsValue maker_format before names.key maker → HoldsValue public_key_format before names.root root
    → made.status ≡ 0
    → (endorsement : List ℕ) × (after names.out ≡ Some endorsement)
    × ((judging : EndorsedNames) (past : Past) (judged : Ended)
    → JudgesEndorsement (maker_key maker) root endorsement judging past judged
    → SaysEndorsed judged ⊎ (judged.status ≡ 6))

-- Not every ENDORSEMENT is accepted: an empty file is refused, unless memory is lacking.
abbrev pub EmptyFilesAreRefused : Type 0
EmptyFilesAreRefused =
    (key : HssKey) (root : PublicKey) (judging : EndorsedNames) (past : Past) (judged : Ended)
    → JudgesEndorsement key root [] judging past judged → (judged.status ≡ 7) ⊎ (judged.status ≡ 6)

-- ---- numbers

-- What a call of `endorse` leaves of the files, if KEY holds this maker.
pub data LeavesMaker (names : EndorseNames) (maker : Maker) (before after : Files) (status : ℕ) : Type 0 where
  -- no file was written
  leaves_all : ((name : List ℕ) → after name ≡ before name) → status ≢ 0
      → LeavesMaker names maker before after status
  -- KEY could not be written, and may hold anything: no endorsement has left the program
  fails_to_write_key : ((name : List ℕ) → name ≢ names.key → after name ≡ before name) → status ≡ 5
      → LeavesMaker names maker before after status
  -- KEY has one more number used, and only then was OUT written: it holds the endorsement of ROOT with that number, or
  -- may hold anything
  uses_up_number : maker.next < 32 ^ maker.levels → HoldsValue maker_format after names.key (number_used maker)
      → ((name : List ℕ) → name ≢ names.key → name ≢ names.out → after name ≡ before name)
      → ((root : PublicKey) × HoldsValue public_key_format before names.root root
      × (after names.out ≡ Some (maker_signature maker maker.next (endorsed_text root)))) ⊎ (status ≡ 5)
      → LeavesMaker names maker before after status

-- A call of `endorse` leaves KEY as it was and endorses nothing, or uses up one number of it before the endorsement is
-- written, or KEY could not be written.
abbrev pub EndorsingUsesUpItsNumber : Type 0
EndorsingUsesUpItsNumber =
    (names : EndorseNames) (ending : Ended) (before after : Files) (maker : Maker)
    → CommandEnds (endorse names) at_first ending → ending.before.files ≡ Some before
    → ending.after.files ≡ Some after → HoldsValue maker_format before names.key maker → names.out ≢ names.key
    → LeavesMaker names maker before after ending.status

-- A call of `endorse` over a host that shows its files, and the makers that KEY holds before and after it.
pub record EndorseCall : Type 0 where
  pub names : EndorseNames
  pub ending : Ended
  pub before : Files
  pub after : Files
  pub found : Maker
  pub left : Maker

-- The call is one of `endorse` on the KEY of this name, which is not OUT. A KEY that was not written holds what it
-- held, or what was to be written, as files are replaced whole.
pub record IsCallOn (key : List ℕ) (call : EndorseCall) : Type 0 where
  pub on : call.names.key ≡ key
  pub apart : call.names.out ≢ key
  pub ends : CommandEnds (endorse call.names) at_first call.ending
  pub shows : call.ending.before.files ≡ Some call.before
  pub shows_after : call.ending.after.files ≡ Some call.after
  pub finds : HoldsValue maker_format call.before key call.found
  pub leaves : HoldsValue maker_format call.after key call.left
  pub whole : call.ending.status ≡ 5 → (call.left ≡ call.found) ⊎ (call.left ≡ number_used call.found)

-- the calls come one after another: each finds the KEY that the one before left
abbrev pub AreCallsInTurn : List ℕ → Maker → List EndorseCall → Type 0
AreCallsInTurn key first [] = Unit {0}
AreCallsInTurn key first (call ∷ calls) =
    (call.found ≡ first) × IsCallOn key call × AreCallsInTurn key call.left calls

-- the call uses up this number, as one that is done does
pub record UsesNumber (number : ℕ) (call : EndorseCall) : Type 0 where
  pub found : number ≡ call.found.next
  pub left : call.left ≡ number_used call.found

-- A call that is done uses up the next number of the KEY that it finds.
abbrev pub DoneCallsUseNumbers : Type 0
DoneCallsUseNumbers =
    (key : List ℕ) (call : EndorseCall) → IsCallOn key call → call.ending.status ≡ 0
    → UsesNumber call.found.next call

-- The numbers of calls one after another ascend: no two calls use one number.
abbrev pub NumbersInTurnDiffer : Type 0
NumbersInTurnDiffer =
    (key : List ℕ) (first : Maker) (calls : List EndorseCall) → AreCallsInTurn key first calls
    → AllPairs (λ sooner later. (number other : ℕ) → UsesNumber number sooner → UsesNumber other later
    → number < other) calls

-- A call of `endorse` that is done, over these files.
pub record IsDoneOver (names : EndorseNames) (files : Files) (maker : Maker) (call : EndorseCall) : Type 0 where
  pub names_are : call.names ≡ names
  pub files_are : call.before ≡ files
  pub found_is : call.found ≡ maker
  pub is_call : IsCallOn names.key call
  pub done : call.ending.status ≡ 0

-- An old copy of KEY that is put back makes two calls use one number: where KEY holds a maker with a number left, there
-- is a call for each of two files ROOT that is done, and both use the next number. That each call finds the KEY that
-- the one before left cannot be left out.
abbrev pub OldMakersEndorseAgain : Type 0
OldMakersEndorseAgain =
    (names : EndorseNames) (second_root : List ℕ) (files : Files) (maker : Maker) (root other : PublicKey)
    → HoldsValue maker_format files names.key maker → HoldsValue public_key_format files names.root root
    → HoldsValue public_key_format files second_root other → maker.next ≢ 32 ^ maker.levels → names.out ≢ names.key
    → (sooner later : EndorseCall) × IsDoneOver names files maker sooner
    × IsDoneOver (record names { root = second_root }) files maker later
    × UsesNumber maker.next sooner × UsesNumber maker.next later
