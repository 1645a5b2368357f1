use Rattle.maths.proofs.Slices.{lent_long}
use Rattle.sheet.proofs.Requests.{bytes_inside, sheet_answered}
use Rattle.sheet.proofs.answer.Goals as goal

pub slice_bounds-frame-end : goal.slice_bounds-frame-end
slice_bounds-frame-end c = bytes_inside _ _ c.read.ensures.parts _ _ c.ok_or.ensures.value c.in_ok-q.q c.in_ok-q.was _ c.hex_bytes.ensures

pub slice_bounds-frame-end-2 : goal.slice_bounds-frame-end-2
slice_bounds-frame-end-2 c = lent_long _ _ (bytes_inside _ _ c.read.ensures.parts _ _ c.ok_or.ensures.value c.in_ok-q.q c.in_ok-q.was _ c.hex_bytes.ensures)

pub returns-in-Encode : goal.returns-in-Encode
returns-in-Encode c =
    sheet_answered _ _ c.read.ensures.parts _ _ c.ok_or.ensures.value c.in_ok-q.q c.in_ok-q.was _ c.hex_bytes.ensures _ _ c.in-Encode.is c.encode.ensures

pub returns-in-Bf : goal.returns-in-Bf
returns-in-Bf c =
    sheet_answered _ _ c.read.ensures.parts _ _ c.ok_or.ensures.value c.in_ok-q.q c.in_ok-q.was _ c.hex_bytes.ensures _ _ c.in-Bf.is c.flip.ensures

pub returns-in-Ms : goal.returns-in-Ms
returns-in-Ms c =
    sheet_answered _ _ c.read.ensures.parts _ _ c.ok_or.ensures.value c.in_ok-q.q c.in_ok-q.was _ c.hex_bytes.ensures _ _ c.in-Ms.is c.soft.ensures
