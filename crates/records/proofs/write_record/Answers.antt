-- `records::write_record` meets its contract. Assumes nothing.
use Rattle.records.proofs.Pieces.{some_byte, body_room, record_put}
use Rattle.records.proofs.write_record.Goals as goal

pub bounds-rest-0 : goal.bounds-rest-0
bounds-rest-0 c = some_byte c.args.fields.now c.args.values.now c.args.rest.now c.requires.2 _ c.map_of.ensures.0

pub put_fields-requires : goal.put_fields-requires
put_fields-requires c =
    let room = body_room c.args.fields.now c.args.values.now c.args.rest.now c.requires.2 _ c.map_of.ensures.0 in
    (c.requires.0, c.requires.1, room)

pub returns : goal.returns
returns c = record_put c.args.fields.now c.args.values.now c.args.rest.now c.requires.2 _ c.map_of.ensures.0 _ _ c.put_fields.ensures
