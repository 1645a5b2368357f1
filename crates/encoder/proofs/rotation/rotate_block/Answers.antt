use Rattle.encoder.proofs.Turning.{part_long, rotated_part}
use Rattle.encoder.proofs.rotation.rotate_block.Goals as goal

pub slice_bounds-rotate_bytes-end-in-32-2 : goal.slice_bounds-rotate_bytes-end-in-32-2
slice_bounds-rotate_bytes-end-in-32-2 c = part_long 32 c.args.block.now c.in-32.is

pub returns-in-32 : goal.returns-in-32
returns-in-32 c = rotated_part 32 c.args.block.now _ c.in-32.is c.rotate_bytes-in-32.ensures
