-- Each table of the receiver says the same as the one-call receiver's own, row by row; and so an event shows what it holds. Assumes nothing.
use mathlib.Core.Path.{◌≡◌, refl, sym}
use mathlib.Core.Bool.{Bool, true, false}
use mathlib.Core.List.{[]}
use Prim.Native.Nat.{ℕ}
use lib.Dec.{eqb}
use Rattle.bits.specs.Field.{pick}
use Rattle.nch.specs.Told.{read_of}
use Rattle.facch.specs.Told.{read_of as readFacch}
use Rattle.pch.specs.Entry.{read_of as readPch}
use Rattle.receiver.specs.declared.Move.{Move}
use Rattle.receiver.specs.declared.Move.TheVariants.{Reselection, Handover, Reconfiguration, LeftIdle}
use Rattle.receiver.specs.Channels.{asks, leads, Channel, onNch, onFacch, onPch, number_of, hasNln, has_pages, drops, forgets, forgets_count}
use Rattle.receiver.specs.Count.{counting, counting_over}
use Rattle.receiver.specs.Step.{Happening, heardNch, heardFacch, heard_pch, joins, moves, bit_is, passes, Cause, nothing, joining, paged, moving, numbered, numbering, Content, content_of}
use Rattle.isolation.specs.One.{has_segments, may_lead, shows_nln, shows_pages, hears, gone_by, forgotten_by, count_forgotten_by, listed_in}
use Rattle.isolation.specs.One.{Sight, mine, nln_seen, page_seen, cause_seen, count_seen, over_seen, news_seen, sight_of}
use Rattle.isolation.specs.Calls.{paged_in}
use Rattle.receiver.specs.Model.{key_of}

-- ## The tables

-- one channel and another are the same
abbrev pub same : Channel → Channel → Bool
same c d = eqb (number_of c) (number_of d)

pub asks-same : (c : Channel) → asks (number_of c) ≡ has_segments c
asks-same onNch = refl
asks-same onFacch = refl
asks-same onPch = refl

pub leads-same : (c : Channel) → leads (number_of c) ≡ may_lead c
leads-same onNch = refl
leads-same onFacch = refl
leads-same onPch = refl

pub shows_same : (c : Channel) → hasNln c ≡ shows_nln c
shows_same onNch = refl
shows_same onFacch = refl
shows_same onPch = refl

pages_same : (c : Channel) → has_pages c ≡ shows_pages c
pages_same onNch = refl
pages_same onFacch = refl
pages_same onPch = refl

hears-same : (c d : Channel) → same c d ≡ hears c d
hears-same onNch onNch = refl
hears-same onNch onFacch = refl
hears-same onNch onPch = refl
hears-same onFacch onNch = refl
hears-same onFacch onFacch = refl
hears-same onFacch onPch = refl
hears-same onPch onNch = refl
hears-same onPch onFacch = refl
hears-same onPch onPch = refl

pub drops_same : (c : Channel) (m : Move) → drops c m ≡ gone_by c m
drops_same onNch Reselection = refl
drops_same onNch Handover = refl
drops_same onNch Reconfiguration = refl
drops_same onNch LeftIdle = refl
drops_same onFacch Reselection = refl
drops_same onFacch Handover = refl
drops_same onFacch Reconfiguration = refl
drops_same onFacch LeftIdle = refl
drops_same onPch Reselection = refl
drops_same onPch Handover = refl
drops_same onPch Reconfiguration = refl
drops_same onPch LeftIdle = refl

pub forgets-same : (m : Move) → forgets m ≡ forgotten_by m
forgets-same Reselection = refl
forgets-same Handover = refl
forgets-same Reconfiguration = refl
forgets-same LeftIdle = refl

pub forgets_count-same : (m : Move) → forgets_count m ≡ count_forgotten_by m
forgets_count-same Reselection = refl
forgets_count-same Handover = refl
forgets_count-same Reconfiguration = refl
forgets_count-same LeftIdle = refl

-- ## What is seen of an event

-- what a channel shows of what may discard halves
abbrev pub shown : Channel → Cause → Cause
shown c nothing = nothing
shown c (joining k) = joining k
shown c (paged k) = pick (has_pages c) (paged k) nothing
shown c (moving m) = moving m
shown c (numbered n) = pick (hasNln c) (numbered n) nothing

-- what is seen of what is in an event
abbrev pub showing : ℕ → Channel → Content → Sight
showing key c x = record { cause = shown c x.cause; news = x.news; entries = pick (same c x.channel) (mine key x.entries) [] }

-- w: the channel shows an NLN, b: the message has one
nln-same : (c : Channel) (w b : Bool) (n : ℕ) → hasNln c ≡ w → nln_seen w b n ≡ shown c (numbering b n)
nln-same c true true n e = rw e
nln-same c true false n e = refl
nln-same c false true n e = rw e
nln-same c false false n e = refl

-- w: the channel shows a key of the PCH
page_same : (c : Channel) (w : Bool) (k : ℕ) → has_pages c ≡ w → page_seen w k ≡ shown c (paged k)
page_same c true k e = rw e
page_same c false k e = rw e

-- its entries and their channel; what may discard a half
pub listed_same : (h : Happening) → listed_in h ≡ record { channel = (content_of h).channel; entries = (content_of h).entries }
listed_same (heardNch s) = refl
listed_same (heardFacch s) = refl
listed_same (heard_pch ns) = refl
listed_same (joins k) = refl
listed_same (moves m) = refl
listed_same (bit_is b) = refl
listed_same passes = refl

-- who is paged
pub paged-same : (h : Happening) → (content_of h).paged ≡ paged_in h
paged-same (heardNch s) = refl
paged-same (heardFacch s) = refl
paged-same (heard_pch ns) = refl
paged-same (joins k) = refl
paged-same (moves m) = refl
paged-same (bit_is b) = refl
paged-same passes = refl

-- the channel on which they are heard
pub heard-same : (c : Channel) (h : Happening) → hears c (listed_in h).channel ≡ same c (content_of h).channel
heard-same c h = rw (listed_same h) (sym (hears-same c (content_of h).channel))

cause-same : (c : Channel) (h : Happening) → cause_seen c h ≡ shown c (content_of h).cause
cause-same c (heardNch s) = nln-same c (shows_nln c) (read_of s).«record».hasNln (read_of s).«record».nln (shows_same c)
cause-same c (heardFacch s) = refl
cause-same c (heard_pch ns) = page_same c (shows_pages c) (key_of (readPch ns).«record».call) (pages_same c)
cause-same c (joins k) = refl
cause-same c (moves m) = refl
cause-same c (bit_is b) = refl
cause-same c passes = refl

-- b: the message has a count
count_same : (b : Bool) (n : ℕ) → count_seen b n ≡ counting b n
count_same true n = refl
count_same false n = refl

over-same : (b b22 : Bool) (n : ℕ) → over_seen b b22 n ≡ counting_over b b22 n
over-same true b22 n = refl
over-same false b22 n = refl

news-same : (h : Happening) → news_seen h ≡ (content_of h).news
news-same (heardNch s) = count_same (read_of s).«record».release6.hasCount (read_of s).«record».release6.cellcount
news-same (heardFacch s) = over-same (readFacch s).«record».release6.hasCount (readFacch s).«record».release6.b22 (readFacch s).«record».release6.cellcount
news-same (heard_pch ns) = count_same (readPch ns).«record».hasCount (readPch ns).«record».cellcount
news-same (joins k) = refl
news-same (moves m) = refl
news-same (bit_is b) = refl
news-same passes = refl

pub sight-same : (key : ℕ) (c : Channel) (h : Happening) → sight_of key c h ≡ showing key c (content_of h)
unfolding sight_of
sight-same key c h = rw (listed_same h, cause-same c h, news-same h, ← hears-same c (content_of h).channel)
