use Rattle.std.proofs.Common.{◌∙◌, arith}
use Rattle.mb_model.specs.declared.region.Region.{Region}
use Rattle.mb_region.proofs.Replaced.{no_bytes_held, still_stands, bytes_read}
use Rattle.mb_outbound.proofs.Bound.{finds_use, ordered_held, some_held, use_short, use_room}
use Rattle.mb_outbound.proofs.binding.next_use.Goals as goal

pub unreachable-requires : goal.unreachable-requires
unreachable-requires g c = no_bytes_held _ c.deref.result.now (c.deref.ensures.value ∙ c.read_area.ensures.read) (some_held c.requires.held) c.in_default.ensures

pub returns-clause-used : goal.returns-clause-used
returns-clause-used g c = λ region has. (
    let stands = still_stands c.deref.result.now c.in-Some.bytes.now region (c.deref.ensures.value ∙ c.read_area.ensures.read) c.in-Some.ensures has in
    finds_use c.in-Some.bytes.now c.use_in_record.new.out.items region c.args.key c.use_in_record.result
    (ordered_held c.deref.result.now c.requires.held region (bytes_read c.deref.ensures.value c.read_area.ensures.bytes) (c.deref.ensures.value ∙ c.read_area.ensures.read) has)
    stands (c.use_in_record.ensures.used region stands))

pub returns-clause-short : goal.returns-clause-short
returns-clause-short g c = use_short c.requires.held.region c.args.key c.use_in_record.new.out.items c.use_in_record.result (returns-clause-used g c c.requires.held.region c.requires.held.holds)

pub invariant_of-room-clause-other_room : goal.invariant_of-room-clause-other_room
invariant_of-room-clause-other_room g c =
    let region : Region = c.requires.held.region in
    let same = c.deref.ensures.value ∙ c.read_area.ensures.read in
    let stands = still_stands c.deref.result.now c.in-Some.bytes.now region same c.in-Some.ensures c.requires.held.holds in
    let other : _ = use_room c.in-Some.bytes.now c.use_in_record.new.out.items region c.args.key _ _ c.use_in_record.result c.requires.held.ordered
    stands (c.use_in_record.ensures.used region stands) (c.use_in_record.ensures.capacity region stands) c.use_in_record.ensures.refused_capacity in
    omega (arith, other, c.args.room.now.other_room)
