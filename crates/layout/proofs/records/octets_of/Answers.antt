-- `layout::records::octets_of` meets its contract. Assumes nothing.
use mathlib.Core.Path.{ap, refl, ◌∙◌}
use lib.ListN.{length-append}
use Rattle.arrays.specs.Runs.{stored}
use Rattle.arrays.proofs.Running.{more}
use Rattle.layout.proofs.Numbers.{length-octets}
use Rattle.layout.proofs.Packing.{record_whole}
use Rattle.layout.proofs.records.octets_of.Goals as goal

pub returns : goal.returns
returns c =
    let s2 = more 4 _ _ _ 0 _ _ c.put_u32.ensures (length-octets 4 _) c.put_u32-2.ensures in
    let s3 = more 8 _ _ _ 0 _ _ s2 (simp (length-append, length-octets)) c.put_u64.ensures in
    let s4 = more 16 _ _ _ 0 _ _ s3 (simp (length-append, length-octets)) c.put_u64-2.ensures in
    let s5 = more 24 _ _ _ 0 _ _ s4 (simp (length-append, length-octets)) (c.put_u32-3.ensures ∙ ap (stored _ 24) c.four_flags-entry.ensures) in
    let s6 = more 28 _ _ _ 0 _ _ s5 (simp (length-append, length-octets)) (c.put_u32-4.ensures ∙ ap (stored _ 28) c.four_flags-channel.ensures) in
    let s7 = more 32 _ _ _ 0 _ _ s6 (simp (length-append, length-octets)) (c.put_u32-5.ensures ∙ ap (stored _ 32) c.four_flags-random.ensures) in
    let s8 = more 36 _ _ _ 0 _ _ s7 (simp (length-append, length-octets)) (c.put_u32-6.ensures ∙ ap (stored _ 36) c.four_flags-uplink.ensures) in
    let s9 = more 40 _ _ _ 0 _ _ s8 (simp (length-append, length-octets)) (c.put_u32-7.ensures ∙ ap (stored _ 40) c.four_flags-sms.ensures) in
    let s10 = more 44 _ _ _ 0 _ _ s9 (simp (length-append, length-octets)) (c.put_u32-8.ensures ∙ ap (stored _ 44) c.four-small.ensures) in
    let s11 = more 48 _ _ _ 0 _ _ s10 (simp (length-append, length-octets)) (c.put_u32-9.ensures ∙ ap (stored _ 48) c.four-rates.ensures) in
    let s12 = more 52 _ _ _ 0 _ _ s11 (simp (length-append, length-octets)) c.put_u32-10.ensures in
    s12 ∙ record_whole c.args.r _ refl
