use Rattle.std.proofs.Common.{◌≡◌, ℕ, ◌≤◌, ◌∙◌, true, false, refl, sym, ap, subst, inr, None, Some}
use Rattle.mb_model.specs.declared.reply.Refusal.TheVariants.{WrongLayer, WrongCode}
use Rattle.mb_model.specs.declared.reply.Reply.TheVariants as reply
use Rattle.mb_model.specs.owners.Layers.{is_runnable}
use Rattle.mb_board.specs.Calls.{held_in, IsUp}
use Rattle.mb_device_orders.proofs.Spared.{same_flash_spared}
use Rattle.mb_device.specs.declared.device.Device.{Device}
use Rattle.mb_device.specs.Regions.{region_named}
use Rattle.mb_device.specs.Sound.{Fits, IsSoundDevice, Steps}
use Rattle.mb_device.specs.KeptTrees.{trees_of}
use Rattle.mb_device.proofs.Answered.{as_taken, layer_taken, refused, layer_boots_none, layer_done_none, layer_makes_none, uncut, stopped_by}
use Rattle.mb_device.proofs.Uses.{IsUse, is_up, remembers, use_ready, use_runs, use_told, use_cut, use_refused, use_sealed, answer_goes_on, metered_by}
use Rattle.mb_device.proofs.Trees.{trees_go, trees_held, tree_to_sign}
use Rattle.mb_device.proofs.regions.use_at.Goals as goal

pub ask-requires-clause-can_answer : goal.ask-requires-clause-can_answer
ask-requires-clause-can_answer g c =
    let has = c.requires.sound in
    let own = g.met.S.Runs.runs c.args.s c.args.running (g.B.Board.seen c.args.b.now).memory.flash has.world has.sound.fits in
    record {
      up = subst (λ (n : ℕ). IsUp n (g.B.Board.seen c.args.b.now)) (sym c.requires.level) (is_up (g.S.Runs.holder c.args.s c.args.running) g.S.Runs.level (g.B.Board.seen c.args.b.now) has.world has.sound own.phase);
      bytes = c.requires.bytes;
      remembered = remembers (g.S.Runs.holder c.args.s c.args.running) g.S.Runs.level (g.B.Board.seen c.args.b.now) c.args.running has.world has.sound own;
    }

pub returns-then-not-may_run : goal.returns-then-not-may_run
returns-then-not-may_run g c =
    refused _ _ (g.S.Runs.holder c.args.s c.args.running) c.into_device.result c.args.event.now c.reply.result WrongLayer (g.B.Board.seen c.args.b.now) c.args.hashes.now (sym c.into_device.ensures) c.reply.ensures (layer_taken c.args.event.now c.requires.event)
    (λ world held.
    let sound = subst (λ (d : Device). IsSoundDevice d (held_in (g.B.Board.seen c.args.b.now)) world) c.into_device.ensures held in
    let own = g.met.S.Runs.runs c.args.s c.args.running (g.B.Board.seen c.args.b.now).memory.flash world sound.fits in
    let barred : is_runnable c.args.running.known.figures.layers g.L.Compartment.place ≡ false = subst (λ (n : ℕ). is_runnable c.args.running.known.figures.layers n ≡ false) c.number.ensures (sym c.if-not-may_run.ensures) in
    subst (λ (d : Device). Steps world c.args.event.now c.reply.result d (held_in (g.B.Board.seen c.args.b.now))) (sym c.into_device.ensures)
    (use_refused (g.S.Runs.holder c.args.s c.args.running) g.S.Runs.level g.L.Compartment.place c.args.running (held_in (g.B.Board.seen c.args.b.now)) world c.args.event.now c.reply.result c.requires.event c.requires.region c.reply.ensures sound own sound.fits (inr barred)))

pub is_sealed-requires-clause-remembered : goal.is_sealed-requires-clause-remembered
is_sealed-requires-clause-remembered g c =
    let has = c.requires.sound in
    remembers (g.S.Runs.holder c.args.s c.args.running) g.S.Runs.level (g.B.Board.seen c.args.b.now) c.args.running has.world has.sound
    (g.met.S.Runs.runs c.args.s c.args.running (g.B.Board.seen c.args.b.now).memory.flash has.world has.sound.fits)

pub is_sealed-requires-clause-powered : goal.is_sealed-requires-clause-powered
is_sealed-requires-clause-powered g c =
    let has = c.requires.sound in
    let own = g.met.S.Runs.runs c.args.s c.args.running (g.B.Board.seen c.args.b.now).memory.flash has.world has.sound.fits in
    let up = is_up (g.S.Runs.holder c.args.s c.args.running) g.S.Runs.level (g.B.Board.seen c.args.b.now) has.world has.sound own.phase in
    record { on = up.on; loaded = up.loaded }

pub returns-then-is_sealed : goal.returns-then-is_sealed
returns-then-is_sealed g c =
    refused _ _ (g.S.Runs.holder c.args.s c.args.running) c.into_device-then-is_sealed.result c.args.event.now c.reply-then-is_sealed.result WrongCode (g.B.Board.seen c.args.b.now) c.args.hashes.now (sym c.into_device-then-is_sealed.ensures) c.reply-then-is_sealed.ensures (layer_taken c.args.event.now c.requires.event)
    (λ world held.
    let sound = subst (λ (d : Device). IsSoundDevice d (held_in (g.B.Board.seen c.args.b.now)) world) c.into_device-then-is_sealed.ensures held in
    let own = g.met.S.Runs.runs c.args.s c.args.running (g.B.Board.seen c.args.b.now).memory.flash world sound.fits in
    let runs : is_runnable c.args.running.known.figures.layers g.L.Compartment.place ≡ true = subst (λ (n : ℕ). is_runnable c.args.running.known.figures.layers n ≡ true) c.number.ensures (sym c.if-not-may_run.ensures) in
    subst (λ (d : Device). Steps world c.args.event.now c.reply-then-is_sealed.result d (held_in (g.B.Board.seen c.args.b.now))) (sym c.into_device-then-is_sealed.ensures)
    (use_sealed (g.S.Runs.holder c.args.s c.args.running) g.S.Runs.level g.L.Compartment.place c.args.running (held_in (g.B.Board.seen c.args.b.now)) world c.args.event.now c.reply-then-is_sealed.result c.requires.event c.requires.region
    (subst (λ (n : ℕ). n ≤ g.L.Compartment.place) c.requires.level g.met.S.Reaches.within) c.reply-then-is_sealed.ensures sound own sound.fits runs
    (sym (c.is_sealed.ensures own.state own.codes) ∙ c.if-is_sealed.true)))

pub returns-in-Ok : goal.returns-in-Ok
returns-in-Ok g c = record {
  steps = as_taken c.args.event.now (layer_taken c.args.event.now c.requires.event) (λ world sound.
      let own = g.met.S.Runs.runs c.args.s c.args.running (g.B.Board.seen c.args.b.now).memory.flash world sound.fits in
      let up = is_up (g.S.Runs.holder c.args.s c.args.running) g.S.Runs.level (g.B.Board.seen c.args.b.now) world sound own.phase in
      let used : IsUse g.S.Runs.level g.L.Compartment.place (g.S.Runs.holder c.args.s c.args.running) c.args.running c.args.event.now (g.B.Board.seen c.args.b.now).memory (g.B.Board.seen c.args.b.now).power (g.B.Board.seen c.args.b.now).level (g.B.Board.seen c.args.b.now).meter world = record {
        sound = sound;
        own = own;
        unsealed = sym (c.is_sealed.ensures own.state own.codes) ∙ c.if-is_sealed.false;
        layer = c.requires.event;
        named = c.requires.region;
        here = subst (λ (n : ℕ). n ≤ g.L.Compartment.place) c.requires.level g.met.S.Reaches.within;
        some = subst (λ (n : ℕ). 1 ≤ n) c.requires.level g.met.S.Reaches.raised;
        runs = subst (λ (n : ℕ). is_runnable c.args.running.known.figures.layers n ≡ true) c.number.ensures (sym c.if-not-may_run.ensures);
      } in
      let ready = use_ready g.S.Runs.level g.L.Compartment.place (g.S.Runs.holder c.args.s c.args.running) c.args.running c.args.event.now (g.B.Board.seen c.args.b.now).memory (g.B.Board.seen c.args.b.now).power (g.B.Board.seen c.args.b.now).level (g.B.Board.seen c.args.b.now).meter world used in
      let runs = use_runs g.S.Runs.level g.L.Compartment.place (g.S.Runs.holder c.args.s c.args.running) c.args.running c.args.event.now (g.B.Board.seen c.args.b.now).memory (g.B.Board.seen c.args.b.now).power (g.B.Board.seen c.args.b.now).level (g.B.Board.seen c.args.b.now).meter world used in
      use_told g.S.Runs.level g.L.Compartment.place (g.S.Runs.holder c.args.s c.args.running) c.args.running c.args.event.now (g.B.Board.seen c.args.b.now).memory (g.B.Board.seen c.args.b.now).power (g.B.Board.seen c.args.b.now).level (g.B.Board.seen c.args.b.now).meter world used
      c.into_device-in-Ok.result c.ask.new.running c.in-Ok.reply (g.B.Board.seen c.ask.new.b).memory (g.B.Board.seen c.ask.new.b).power (g.B.Board.seen c.ask.new.b).level (g.B.Board.seen c.ask.new.b).meter
      (c.in-Ok.ensures.answers.told own.state ready runs own.knows) (c.in-Ok.ensures.answers.ran.ran.power ∙ sym up.on) c.in-Ok.ensures.answers.ran.ran.level c.in-Ok.ensures.answers.ran.ran.meter.armed up.on up.at_level
      (λ w is. subst (λ (d : Device). Fits d (g.B.Board.seen c.ask.new.b).memory.flash w) (sym c.into_device-in-Ok.ensures) (g.met.S.Runs.fits c.in-Ok.s c.ask.new.running (g.B.Board.seen c.ask.new.b).memory.flash w is)) (c.in-Ok.ensures.answers.known own.state ready own.knows)
      (c.in-Ok.ensures.answers.codes own.state own.codes));
  untold = λ unwritten. c.in-Ok.ensures.answers.writes (uncut c.in-Ok.reply unwritten);
  quiet = layer_boots_none c.args.event.now _ c.requires.event;
  spared = same_flash_spared _ _ c.in-Ok.ensures.answers.ran.flash;
  events = (
      let world = c.requires.sound.world in
      let sound = c.requires.sound.sound in
      let own = g.met.S.Runs.runs c.args.s c.args.running (g.B.Board.seen c.args.b.now).memory.flash world sound.fits in
      let up = is_up (g.S.Runs.holder c.args.s c.args.running) g.S.Runs.level (g.B.Board.seen c.args.b.now) world sound own.phase in
      let used : IsUse g.S.Runs.level g.L.Compartment.place (g.S.Runs.holder c.args.s c.args.running) c.args.running c.args.event.now (g.B.Board.seen c.args.b.now).memory (g.B.Board.seen c.args.b.now).power (g.B.Board.seen c.args.b.now).level (g.B.Board.seen c.args.b.now).meter world = record {
        sound = sound;
        own = own;
        unsealed = sym (c.is_sealed.ensures own.state own.codes) ∙ c.if-is_sealed.false;
        layer = c.requires.event;
        named = c.requires.region;
        here = subst (λ (n : ℕ). n ≤ g.L.Compartment.place) c.requires.level g.met.S.Reaches.within;
        some = subst (λ (n : ℕ). 1 ≤ n) c.requires.level g.met.S.Reaches.raised;
        runs = subst (λ (n : ℕ). is_runnable c.args.running.known.figures.layers n ≡ true) c.number.ensures (sym c.if-not-may_run.ensures);
      } in
      let ready = use_ready g.S.Runs.level g.L.Compartment.place (g.S.Runs.holder c.args.s c.args.running) c.args.running c.args.event.now (g.B.Board.seen c.args.b.now).memory (g.B.Board.seen c.args.b.now).power (g.B.Board.seen c.args.b.now).level (g.B.Board.seen c.args.b.now).meter world used in
      let runs = use_runs g.S.Runs.level g.L.Compartment.place (g.S.Runs.holder c.args.s c.args.running) c.args.running c.args.event.now (g.B.Board.seen c.args.b.now).memory (g.B.Board.seen c.args.b.now).power (g.B.Board.seen c.args.b.now).level (g.B.Board.seen c.args.b.now).meter world used in
      record {
        ledger = c.in-Ok.ensures.answers.ran.ran.ledger;
        meter =
            metered_by 3 (c.in-Ok.s, c.in-Ok.reply) c.in-Ok.reply (g.B.Board.seen c.args.b.now).meter (g.B.Board.seen c.ask.new.b).meter
            (answer_goes_on g.L.Compartment.place c.args.event.now own.state c.in-Ok.reply (g.B.Board.seen c.args.b.now).memory (g.B.Board.seen c.ask.new.b).memory c.requires.event (c.in-Ok.ensures.answers.told own.state ready runs own.knows))
            c.in-Ok.ensures.answers.ran.ran.meter;
      });
  trees =
      trees_held g.L.Compartment.place c.args.event.now c.in-Ok.reply (g.S.Runs.holder c.args.s c.args.running) c.into_device-in-Ok.result (Some c.args.running.known.trees.value) (Some c.ask.new.running.known.trees.value)
      c.requires.region (g.met.S.Runs.trees c.args.s c.args.running) (ap trees_of c.into_device-in-Ok.ensures ∙ g.met.S.Runs.trees c.in-Ok.s c.ask.new.running) c.in-Ok.ensures.signs.trees;
  done = layer_done_none c.args.event.now c.in-Ok.reply c.into_device-in-Ok.result c.requires.event;
  order = λ earlier world keys sound same makes. absurd (layer_makes_none c.args.event.now world keys c.requires.event makes);
  cost = c.ask.ensures.signs.cost;
  again = λ own. c.ask.ensures.signs.again (tree_to_sign g.L.Compartment.place c.args.event.now (g.S.Runs.holder c.args.s c.args.running) (Some c.args.running.known.trees.value) c.requires.region (g.met.S.Runs.trees c.args.s c.args.running) own);
}

pub returns-in-Err : goal.returns-in-Err
returns-in-Err g c = record {
  steps = as_taken c.args.event.now (layer_taken c.args.event.now c.requires.event) (λ world sound.
      let own = g.met.S.Runs.runs c.args.s c.args.running (g.B.Board.seen c.args.b.now).memory.flash world sound.fits in
      let up = is_up (g.S.Runs.holder c.args.s c.args.running) g.S.Runs.level (g.B.Board.seen c.args.b.now) world sound own.phase in
      let used : IsUse g.S.Runs.level g.L.Compartment.place (g.S.Runs.holder c.args.s c.args.running) c.args.running c.args.event.now (g.B.Board.seen c.args.b.now).memory (g.B.Board.seen c.args.b.now).power (g.B.Board.seen c.args.b.now).level (g.B.Board.seen c.args.b.now).meter world = record {
        sound = sound;
        own = own;
        unsealed = sym (c.is_sealed.ensures own.state own.codes) ∙ c.if-is_sealed.false;
        layer = c.requires.event;
        named = c.requires.region;
        here = subst (λ (n : ℕ). n ≤ g.L.Compartment.place) c.requires.level g.met.S.Reaches.within;
        some = subst (λ (n : ℕ). 1 ≤ n) c.requires.level g.met.S.Reaches.raised;
        runs = subst (λ (n : ℕ). is_runnable c.args.running.known.figures.layers n ≡ true) c.number.ensures (sym c.if-not-may_run.ensures);
      } in
      let ready = use_ready g.S.Runs.level g.L.Compartment.place (g.S.Runs.holder c.args.s c.args.running) c.args.running c.args.event.now (g.B.Board.seen c.args.b.now).memory (g.B.Board.seen c.args.b.now).power (g.B.Board.seen c.args.b.now).level (g.B.Board.seen c.args.b.now).meter world used in
      let runs = use_runs g.S.Runs.level g.L.Compartment.place (g.S.Runs.holder c.args.s c.args.running) c.args.running c.args.event.now (g.B.Board.seen c.args.b.now).memory (g.B.Board.seen c.args.b.now).power (g.B.Board.seen c.args.b.now).level (g.B.Board.seen c.args.b.now).meter world used in
      use_cut g.S.Runs.level g.L.Compartment.place (g.S.Runs.holder c.args.s c.args.running) c.args.running c.args.event.now (g.B.Board.seen c.args.b.now).memory (g.B.Board.seen c.args.b.now).power (g.B.Board.seen c.args.b.now).level (g.B.Board.seen c.args.b.now).meter world used
      c.in-Err.off (g.B.Board.seen c.ask.new.b).memory (g.B.Board.seen c.ask.new.b).power (g.B.Board.seen c.ask.new.b).level (g.B.Board.seen c.ask.new.b).meter (c.in-Err.ensures.answers.told own.state ready runs own.knows) c.in-Err.ensures.answers.ran.ran.power c.in-Err.ensures.answers.ran.ran.meter.armed c.in-Err.ensures.answers.ran.ran.meter.cut);
  untold = λ unwritten. absurd (cc);
  quiet = layer_boots_none c.args.event.now _ c.requires.event;
  spared = same_flash_spared _ _ c.in-Err.ensures.answers.ran.flash;
  events = record { ledger = c.in-Err.ensures.answers.ran.ran.ledger; meter = stopped_by 3 c.in-Err.off _ _ c.in-Err.ensures.answers.ran.ran.meter };
  trees = trees_go (region_named c.args.event.now) c.args.event.now reply.Stopped (trees_of (g.S.Runs.holder c.args.s c.args.running)) None refl refl refl;
  done = layer_done_none c.args.event.now reply.Stopped _ c.requires.event;
  order = λ earlier world keys sound same makes. absurd (layer_makes_none c.args.event.now world keys c.requires.event makes);
  cost = c.ask.ensures.signs.cost;
  again = λ own. c.ask.ensures.signs.again (tree_to_sign g.L.Compartment.place c.args.event.now (g.S.Runs.holder c.args.s c.args.running) (Some c.args.running.known.trees.value) c.requires.region (g.met.S.Runs.trees c.args.s c.args.running) own);
}
