use Rattle.std.proofs.Common.{◌∙◌, arith}
use Rattle.mb_model.specs.declared.region.Region.{Region}
use Rattle.mb_model.specs.memories.Meaning.{region_after_fate}
use Rattle.mb_region.proofs.Replaced.{no_bytes_held, record_short, fated_stands, still_stands, bytes_read}
use Rattle.mb_region.proofs.stored.fate_bytes.Goals as goal

pub unreachable-requires : goal.unreachable-requires
unreachable-requires g c = no_bytes_held _ c.deref.result.now (c.deref.ensures.value ∙ c.read_area.ensures.read) (record { region = c.requires.held.region; holds = c.requires.held.holds }) c.in_default.ensures

pub returns-clause-spelled : goal.returns-clause-spelled
returns-clause-spelled g c = λ region has.
    fated_stands c.args.fate.now _ c.deref.result.now c.in-Some.bytes.now c.fate_record.new.out.items region (bytes_read c.deref.ensures.value c.read_area.ensures.bytes) (c.deref.ensures.value ∙ c.read_area.ensures.read) c.requires.held c.in-Some.ensures c.fate_record.ensures.fated has

pub returns-clause-short : goal.returns-clause-short
returns-clause-short g c = record_short c.fate_record.new.out.items (region_after_fate c.args.fate.now c.requires.held.region) (returns-clause-spelled g c c.requires.held.region c.requires.held.holds)

pub invariant_of-room-clause-other_room : goal.invariant_of-room-clause-other_room
invariant_of-room-clause-other_room g c =
    let region : Region = c.requires.held.region in
    let stands = still_stands c.deref.result.now c.in-Some.bytes.now region (c.deref.ensures.value ∙ c.read_area.ensures.read) c.in-Some.ensures c.requires.held.holds in
    let other = c.fate_record.ensures.capacity region stands c.requires.held.stored in
    omega (arith, other, c.args.room.now.other_room)
