-- The kinds of field, by number: each name is that of include/asternhaken.h, ASTERNHAKEN_FIELD_ in front of it. Assumes nothing.
use Rattle.std.specs.Prelude.{ℕ}

abbrev pub nln_given : ℕ
nln_given = 1

abbrev pub nln : ℕ
nln = 2

abbrev pub call_given : ℕ
call_given = 3

abbrev pub first_octet : ℕ
first_octet = 4

abbrev pub paging : ℕ
paging = 5

abbrev pub call_reference : ℕ
call_reference = 6

abbrev pub service_flag : ℕ
service_flag = 7

abbrev pub acknowledgement_flag : ℕ
acknowledgement_flag = 8

abbrev pub priority : ℕ
priority = 9

abbrev pub cipher_key_number : ℕ
cipher_key_number = 10

abbrev pub channel_given : ℕ
channel_given = 11

abbrev pub channel : ℕ
channel = 12

abbrev pub hops : ℕ
hops = 13

abbrev pub short_list : ℕ
short_list = 14

abbrev pub allocation_octets : ℕ
allocation_octets = 15

abbrev pub allocation : ℕ
allocation = 16

abbrev pub frequency_short_list : ℕ
frequency_short_list = 17

abbrev pub identity_octets : ℕ
identity_octets = 18

abbrev pub identityFirst : ℕ
identityFirst = 19

abbrev pub identityRest : ℕ
identityRest = 20

abbrev pub channelFirst : ℕ
channelFirst = 21

abbrev pub emlpp_priority_given : ℕ
emlpp_priority_given = 22

abbrev pub emlpp_priority : ℕ
emlpp_priority = 23

abbrev pub release6_given : ℕ
release6_given = 24

abbrev pub count_given : ℕ
count_given = 25

abbrev pub cell_global_count : ℕ
cell_global_count = 26

abbrev pub b22_count : ℕ
b22_count = 27

abbrev pub reduced_given : ℕ
reduced_given = 28

abbrev pub reduced_reference : ℕ
reduced_reference = 29

abbrev pub reduced_service_flag : ℕ
reduced_service_flag = 30

abbrev pub random_given : ℕ
random_given = 31

abbrev pub segment_id : ℕ
segment_id = 32

abbrev pub rand_given : ℕ
rand_given = 33

abbrev pub vstk_rand : ℕ
vstk_rand = 34

abbrev pub release7_given : ℕ
release7_given = 35

abbrev pub emergency_mark_given : ℕ
emergency_mark_given = 36

abbrev pub emergency_mark : ℕ
emergency_mark = 37

abbrev pub uplink_given : ℕ
uplink_given = 38

abbrev pub uplink_access : ℕ
uplink_access = 39

abbrev pub amr_given : ℕ
amr_given = 40

abbrev pub fr_amr_given : ℕ
fr_amr_given = 41

abbrev pub fr_amr_config : ℕ
fr_amr_config = 42

abbrev pub hr_amr_given : ℕ
hr_amr_given = 43

abbrev pub hr_amr_config : ℕ
hr_amr_config = 44

abbrev pub sms_given : ℕ
sms_given = 45

abbrev pub sms_confidentiality : ℕ
sms_confidentiality = 46

abbrev pub sms_privacy : ℕ
sms_privacy = 47

abbrev pub emergency : ℕ
emergency = 48

abbrev pub paging_cause_given : ℕ
paging_cause_given = 49

abbrev pub paging_cause : ℕ
paging_cause = 50
