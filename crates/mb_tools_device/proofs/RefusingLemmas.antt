-- The first event that keeps the last one of a script from being cut, and its line.
use Rattle.std.proofs.Common.{◌≡◌, ◌≢◌, ℕ, ◌+◌, ◌<◌, ◌≤◌, ◌⊎◌, inl, inr, true, false, List, [], ◌∷◌, ◌++◌, length, take, drop, get_or, refl, sym, ap, subst, ◌∙◌, arith, append_assoc, length-append, length-drop}
use Rattle.std.specs.Prelude.{All, codes, filter, suc}
use Rattle.std.specs.List.{AllZip}
use Rattle.std.proofs.Math.Seq.{drop-cons}
use Rattle.std.proofs.lemmas.List.{append-nil, take-append-drop, take_more, take_all}
use Rattle.std.proofs.lemmas.List.Elements.{filter-append, All-nil, All-cons, All-head, All-tail, All-push}
use Rattle.mb_model.specs.declared.event.Event.{Event}
use Rattle.mb_model.specs.declared.event.Event.TheVariants as event
use Rattle.mb_model.specs.chains.Lines.{IsBeginning, FailsAtLine, ends_early, ReadsLines, TextFailsAtLine}
use Rattle.mb_model.specs.chains.Script.{SaysEvent, is_skipped, IsScript}
use Rattle.mb_model_commands.specs.Inputs.{IsClearInput}
use Rattle.mb_model_lemmas.proofs.LineLemmas.{HasLines-same, FailsAtLine-none, bad_after}
use Rattle.mb_model_lemmas.proofs.EventLemmas.{SaysEvent-same, IsScript-same, counts, says_count}
use Rattle.mb_script.specs.Reading.{IsLineOf, says, past}
use Rattle.mb_script.proofs.ScriptReading.{one_kept, push_said}
use Rattle.mb_tools_device.specs.MachineRuns.{is_cut}
use Rattle.mb_tools_device.specs.CutCommand.{CanComeFirst, AreUncut, IsUncutScript, uncut_script_input}
use Rattle.mb_tools_device.specs.Refusing.{IsFirstRefused, is_missing, is_wrong}
use Rattle.mb_tools_device.proofs.MachineLemmas.{IsUncut}

-- ---- the events before the first that is refused

-- the first events are no cuts, and there is room for three more
pub record IsUncutTo (events : List Event) (index : ℕ) : Type 0 where
  pub uncut : All IsUncut (take index events)
  pub most : index ≤ 65533

pub one_more_uncut : (events : List Event) (index : ℕ) (e : Event) → IsUncutTo events index → index < length events → e ≡ get_or events index e → index ≢ 65533 → is_cut e ≡ false → IsUncutTo events (index + 1)
one_more_uncut events index e is within there room uncut =
    let most = is.most in
    record {
      uncut = subst (All IsUncut) (sym (take_more events index e within)) (All-push IsUncut (take index events) (get_or events index e) is.uncut (subst IsUncut there uncut));
      most = omega (arith, most, room);
    }

pub all_uncut : (events : List Event) (index : ℕ) → IsUncutTo events index → length events ≤ index → events ≢ [] → AreUncut events
all_uncut events index is whole some = record {
  some = some;
  can = record { uncut = subst (All IsUncut) (take_all index events whole) is.uncut; most = omega (arith, is.most, whole) };
}

split_here : (events : List Event) (index : ℕ) (e : Event) → index < length events → e ≡ get_or events index e → events ≡ take index events ++ e ∷ drop (suc index) events
split_here events index e within there =
    sym (take-append-drop index events) ∙ ap (λ (l : List Event). take index events ++ l) (drop-cons events index e within ∙ ap (λ (x : Event). x ∷ drop (suc index) events) (sym there))

length_here : (events : List Event) (index : ℕ) (e : Event) → index < length events → e ≡ get_or events index e → index ≡ length (take index events)
length_here events index e within there =
    let whole = ap length (split_here events index e within there) ∙ length-append (take index events) (e ∷ drop (suc index) events) in
    omega (arith, whole, length-drop (suc index) events, within)

all_middle : (xs ys : List Event) (y : Event) → All IsUncut (xs ++ y ∷ ys) → IsUncut y
all_middle [] ys y all = All-head IsUncut y ys all
all_middle (x ∷ xs) ys y all = all_middle xs ys y (All-tail IsUncut x (xs ++ y ∷ ys) all)

pub refused_here : (events : List Event) (index : ℕ) (e : Event) → IsUncutTo events index → index < length events → e ≡ get_or events index e
    → (is_cut e ≡ true) ⊎ (index ≡ 65533) → IsFirstRefused events index
refused_here events index e is within there why =
    let before = take index events in
    let many = length_here events index e within there in
    is_wrong before e (drop (suc index) events) (split_here events index e within there) many (record { uncut = is.uncut; most = omega (arith, is.most, many) })
    (λ can. elim why [
      | inl cut ↦
          let no : true ≡ false = sym cut ∙ all_middle before [] e can.uncut in
          cc
      | inr full ↦
          let most = can.most in
          omega (arith, full, many, most, length-append before (e ∷ []))
    ])

-- ---- its line

-- where as many lines stand before a line as events before an event, the one says the other
said_there : (front later : List (List ℕ)) (line : List ℕ) (before after : List Event) (this : Event) → length front ≡ length before
    → AllZip SaysEvent (front ++ line ∷ later) (before ++ this ∷ after) → AllZip SaysEvent front before × SaysEvent line this
said_there [] later line [] after this same said = (tt, said.0)
said_there [] later line (x ∷ before) after this same said = absurd (omega (arith, same))
said_there (y ∷ front) later line [] after this same said = absurd (omega (arith, same))
said_there (y ∷ front) later line (x ∷ before) after this same said =
    let rest = said_there front later line before after this (omega (arith, same)) said.1 in
    ((said.0, rest.0), rest.1)

-- the event that a line says, among those of the lines around it
record IsSaidAmong (front : List (List ℕ)) (line : List ℕ) (events : List Event) : Type 0 where
  before : List Event
  this : Event
  after : List Event
  split : events ≡ before ++ this ∷ after
  many : length front ≡ length before
  here : SaysEvent line this

said_among : (front later : List (List ℕ)) (line : List ℕ) (events : List Event) → AllZip SaysEvent (front ++ line ∷ later) events → IsSaidAmong front line events
said_among [] later line [] said = absurd said
said_among [] later line (e ∷ events) said = record { before = []; this = e; after = events; split = refl; many = refl; here = said.0 }
said_among (y ∷ front) later line [] said = absurd said
said_among (y ∷ front) later line (e ∷ events) said =
    let rest = said_among front later line events said.1 in
    record {
      before = e ∷ rest.before;
      this = rest.this;
      after = rest.after;
      split = ap (λ (l : List Event). e ∷ l) rest.split;
      many = ap (λ (n : ℕ). suc n) rest.many;
      here = rest.here;
    }

said_lines : (front later : List (List ℕ)) (line : List ℕ) → is_skipped line ≡ false → filter counts (front ++ line ∷ later) ≡ filter counts front ++ line ∷ filter counts later
said_lines front later line said =
    filter-append counts front (line ∷ later)
    ∙ ap (λ (x : List (List ℕ)). filter counts front ++ x) (filter-append counts (line ∷ []) later ∙ ap (λ (x : List (List ℕ)). x ++ filter counts later) (one_kept line said))

-- lines that say no event are followed by a boot
goes_on : (front : List (List ℕ)) → AllZip SaysEvent (filter counts front) [] → IsBeginning IsUncutScript front
goes_on front said = record {
  more = codes "boot" ∷ [];
  value = event.Boot ∷ [];
  stands = record {
    script = record {
      said = subst (λ (x : List (List ℕ)). AllZip SaysEvent x (event.Boot ∷ [])) (sym (filter-append counts front (codes "boot" ∷ [])))
          (push_said (filter counts front) [] (codes "boot") event.Boot said refl);
      most = omega arith;
    };
    uncut = record {
      some = λ none. omega (arith, ap length none);
      can = record { uncut = All-cons IsUncut event.Boot [] refl (All-nil IsUncut); most = omega arith };
    };
  };
}

-- a text that begins with these lines ends there, or goes on with a boot if it has no event
begins : (front : List (List ℕ)) (before : List Event) → AllZip SaysEvent (filter counts front) before → CanComeFirst before → IsBeginning IsUncutScript front
begins front [] said can = goes_on front said
begins front (e ∷ before) said can = record {
  more = [];
  value = e ∷ before;
  stands = record {
    script = record { said = subst (λ (x : List (List ℕ)). AllZip SaysEvent (filter counts x) (e ∷ before)) (sym (append-nil front)) said; most = omega (arith, can.most) };
    uncut = record { some = λ none. omega (arith, ap length none); can = can };
  };
}

-- no text begins with these lines and the one of the event that is refused
no_more : (front : List (List ℕ)) (line : List ℕ) (before : List Event) (this : Event) → is_skipped line ≡ false → length (filter counts front) ≡ length before → SaysEvent line this
    → CanComeFirst before → (CanComeFirst (before ++ this ∷ []) → ⊥) → IsBeginning IsUncutScript (front ++ line ∷ []) → ⊥
no_more front line before this said many here can cannot good =
    let moved = append_assoc front (line ∷ []) good.more in
    let all = subst (λ (x : List (List ℕ)). AllZip SaysEvent x good.value) (ap (filter counts) moved ∙ said_lines front good.more line said) good.stands.script.said in
    let among = said_among (filter counts front) (filter counts good.more) line good.value all in
    let uncut : is_cut among.this ≡ false = all_middle among.before among.after among.this (subst (All IsUncut) among.split good.stands.uncut.can.uncut) in
    let same : among.this ≡ this = SaysEvent-same line among.this this among.here here in
    let size = ap length among.split ∙ length-append among.before (among.this ∷ among.after) in
    cannot (record {
      uncut = All-push IsUncut before this can.uncut (ap is_cut (sym same) ∙ uncut);
      most = omega (arith, size, among.many, many, good.stands.uncut.can.most, length-append before (this ∷ []));
    })

refused_at : (front later : List (List ℕ)) (line : List ℕ) (before after : List Event) (this : Event) → is_skipped line ≡ false → length (filter counts front) ≡ length before
    → AllZip SaysEvent (filter counts (front ++ line ∷ later)) (before ++ this ∷ after) → CanComeFirst before → (CanComeFirst (before ++ this ∷ []) → ⊥)
    → FailsAtLine IsUncutScript (front ++ line ∷ later) (length front + 1)
refused_at front later line before after this said many all can cannot =
    let parts = said_there (filter counts front) (filter counts later) line before after this many
    (subst (λ (x : List (List ℕ)). AllZip SaysEvent x (before ++ this ∷ after)) (said_lines front later line said) all) in
    bad_after IsUncutScript front line later (begins front before parts.0 can) (no_more front line before this said many parts.1 can cannot)

-- a script without events lacks one after its last line
lacks_event : (lines : List (List ℕ)) → IsScript lines [] → FailsAtLine IsUncutScript lines (length lines + 1)
lacks_event lines script = ends_early (record {
  good = goes_on lines script.said;
  unfinished = λ value stands. stands.uncut.some (IsScript-same lines value [] stands.script script);
  number = refl;
})

pub refused_line : (text : List ℕ) (events : List Event) (index n : ℕ) → ReadsLines IsScript text events → IsFirstRefused events index → IsLineOf text index n → TextFailsAtLine IsUncutScript text n
refused_line text events index n reads (is_missing none zero) (says front line later has said passed n_is) =
    let same = HasLines-same text reads.lines (front ++ line ∷ later) reads.has has in
    let all = subst (λ (x : List (List ℕ)). AllZip SaysEvent (filter counts x) events) same reads.stands.said in
    let size = says_count (filter counts (front ++ line ∷ later)) events all in
    let parts = ap length (said_lines front later line said) ∙ length-append (filter counts front) (line ∷ filter counts later) in
    absurd (omega (arith, size, parts, ap length none))
refused_line text events index n reads (is_missing none zero) (past lines has few n_is) = record {
  lines = lines;
  has = has;
  fails = subst (λ (m : ℕ). FailsAtLine IsUncutScript lines m) (sym n_is)
      (lacks_event lines (subst (λ (x : List Event). IsScript lines x) none (subst (λ (x : List (List ℕ)). IsScript x events) (HasLines-same text reads.lines lines reads.has has) reads.stands)));
}
refused_line text events index n reads (is_wrong before this after split index_is can cannot) (says front line later has said passed n_is) =
    let same = HasLines-same text reads.lines (front ++ line ∷ later) reads.has has in
    let all = subst (λ (x : List Event). AllZip SaysEvent (filter counts (front ++ line ∷ later)) x) split (subst (λ (x : List (List ℕ)). AllZip SaysEvent (filter counts x) events) same reads.stands.said) in
    record {
      lines = front ++ line ∷ later;
      has = has;
      fails = subst (λ (m : ℕ). FailsAtLine IsUncutScript (front ++ line ∷ later) m) (sym n_is)
          (refused_at front later line before after this said (passed ∙ index_is) all can cannot);
    }
refused_line text events index n reads (is_wrong before this after split index_is can cannot) (past lines has few n_is) =
    let all = subst (λ (x : List (List ℕ)). AllZip SaysEvent (filter counts x) events) (HasLines-same text reads.lines lines reads.has has) reads.stands.said in
    let size = says_count (filter counts lines) events all in
    absurd (omega (arith, size, few, index_is, ap length split, length-append before (this ∷ after)))

-- ---- a script of `cutat` that stands for events is not at fault

pub uncut_scripts_are_clear : (name : List ℕ) → IsClearInput (uncut_script_input name)
uncut_scripts_are_clear name text events place are reads (n, at, inl fails) =
    let same = HasLines-same text reads.lines fails.lines reads.has fails.has in
    FailsAtLine-none IsScript fails.lines events n (subst (λ (l : List (List ℕ)). IsScript l events) same reads.stands.script) fails.fails
uncut_scripts_are_clear name text events place are reads (n, at, inr refused_there) =
    let fails = refused_there.fails in
    let same = HasLines-same text reads.lines fails.lines reads.has fails.has in
    FailsAtLine-none IsUncutScript fails.lines events n (subst (λ (l : List (List ℕ)). IsUncutScript l events) same reads.stands) fails.fails
