-- `capture::lines::put_entry` meets its contract. Assumes nothing.
use Rattle.std.proofs.Common.{[], ◌∷◌, sym, ◌∙◌, arith}
use Rattle.text.proofs.Lines.{placed_behind, fits_behind}
use Rattle.capture.proofs.Texts.{placed}
use Rattle.capture.proofs.Telling.{room_next, entry-added}
use Rattle.capture.proofs.lines.put_entry.Goals as goal

pub unwrap-at-requires : goal.unwrap-at-requires
unwrap-at-requires c =
    let a = c.args in
    fits_behind a.out.now (32 ∷ 32 ∷ []) a.at _ (omega (arith, c.requires)) c.put.ensures.place

pub put_number-at-requires : goal.put_number-at-requires
put_number-at-requires c =
    let a = c.args in
    let e = placed_behind a.out.now (32 ∷ 32 ∷ []) _ a.at _ c.put.ensures.octets (sym c.put.ensures.place ∙ c.unwrap-at.ensures) in
    let p = placed (32 ∷ 32 ∷ []) a.out.now _ a.at _ (omega (arith, c.requires)) e in
    omega (arith, c.requires)

pub put_number-requires : goal.put_number-requires
put_number-requires c =
    let a = c.args in
    let e = placed_behind a.out.now (32 ∷ 32 ∷ []) _ a.at _ c.put.ensures.octets (sym c.put.ensures.place ∙ c.unwrap-at.ensures) in
    let p = placed (32 ∷ 32 ∷ []) a.out.now _ a.at _ (omega (arith, c.requires)) e in
    room_next 21 _ _ _ _ _ _ (omega (arith, c.requires)) c.put_number-at.ensures

pub returns : goal.returns
returns c =
    let a = c.args in
    let e = placed_behind a.out.now (32 ∷ 32 ∷ []) _ a.at _ c.put.ensures.octets (sym c.put.ensures.place ∙ c.unwrap-at.ensures) in
    entry-added a.out.now a.at c.requires a.key a.number _ _ _ e c.put_number-at.ensures c.put_number.ensures
