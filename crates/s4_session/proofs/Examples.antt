-- Worked streams, each computed: what is sent on a connection.
use Rattle.std.proofs.Common.{◌≡◌, ℕ, List, [], ◌∷◌, ◌++◌, refl}
use Rattle.s4_types.specs.Base.{opened}
use Rattle.s4_types.specs.Play.{play, replies}
use Rattle.s4_codec.specs.Format.{number_at, block_at}
use Rattle.s4_session.specs.declared.hall_step.HallStep.{HallStep}
use Rattle.s4_session.specs.declared.hall_step.HallStep.TheVariants.{Arrive}
use Rattle.s4_stream.specs.Logins.{Logins}
use Rattle.s4_session.specs.Arrivals.{requests_of}
use Rattle.s4_session.specs.Sent.{sent_by, sent_without_strangers}

-- what is sent on the connection where no request meets want of memory
abbrev sent_to : ℕ → Logins → List HallStep → List ℕ
sent_to c logins arrivals = sent_by c logins arrivals (replies (play (opened 100) (requests_of logins arrivals)))

-- ---- what arrives

-- the bytes 0 to 14, and a last one
abbrev secret : ℕ → List ℕ
secret last = 0 ∷ 1 ∷ 2 ∷ 3 ∷ 4 ∷ 5 ∷ 6 ∷ 7 ∷ 8 ∷ 9 ∷ 10 ∷ 11 ∷ 12 ∷ 13 ∷ 14 ∷ last ∷ []

-- a Hello of the principal as client 1
abbrev hello : ℕ → ℕ → List ℕ
hello who last = 0 ∷ 0 ∷ 0 ∷ 26 ∷ 0 ∷ 1 ∷ 0 ∷ 0 ∷ 0 ∷ who ∷ 0 ∷ 0 ∷ 0 ∷ 1 ∷ secret last

-- a Create in the purse 0
abbrev create : List ℕ
create = 0 ∷ 0 ∷ 0 ∷ 2 ∷ 1 ∷ 0 ∷ []

-- a Write of 'hello' to 7.0.1
abbrev write : List ℕ
write = 0 ∷ 0 ∷ 0 ∷ 20 ∷ 4 ∷ 0 ∷ 0 ∷ 0 ∷ 7 ∷ 0 ∷ 0 ∷ 0 ∷ 1 ∷ 0 ∷ 0 ∷ 0 ∷ 0 ∷ 0 ∷ 5 ∷ 104 ∷ 101 ∷ 108 ∷ 108 ∷ 111 ∷ []

-- a Read of five bytes of 7.0.1, with this byte between its creator and its purse number
abbrev read_with : ℕ → List ℕ
read_with pad = 0 ∷ 0 ∷ 0 ∷ 18 ∷ 3 ∷ 0 ∷ 0 ∷ 0 ∷ 7 ∷ pad ∷ 0 ∷ 0 ∷ 1 ∷ 0 ∷ 0 ∷ 0 ∷ 0 ∷ 0 ∷ 0 ∷ 0 ∷ 5 ∷ 0 ∷ []

abbrev read : List ℕ
read = read_with 0

-- a PList of the range 7
abbrev list : List ℕ
list = 0 ∷ 0 ∷ 0 ∷ 7 ∷ 14 ∷ 0 ∷ 0 ∷ 0 ∷ 7 ∷ 0 ∷ 0 ∷ []

-- ---- what is sent

abbrev welcome : List ℕ
welcome = 0 ∷ 0 ∷ 0 ∷ 2 ∷ 16 ∷ 1 ∷ []

-- the principal's first object
abbrev made : ℕ → List ℕ
made who = 0 ∷ 0 ∷ 0 ∷ 9 ∷ 1 ∷ 0 ∷ 0 ∷ 0 ∷ who ∷ 0 ∷ 0 ∷ 0 ∷ 1 ∷ []

abbrev done : List ℕ
done = 0 ∷ 0 ∷ 0 ∷ 1 ∷ 0 ∷ []

-- 'hello', by the entry 0 since the moment 6
abbrev data_hello : List ℕ
data_hello = 0 ∷ 0 ∷ 0 ∷ 18 ∷ 2 ∷ 1 ∷ 0 ∷ 0 ∷ 0 ∷ 0 ∷ 0 ∷ 0 ∷ 0 ∷ 0 ∷ 6 ∷ 0 ∷ 5 ∷ 104 ∷ 101 ∷ 108 ∷ 108 ∷ 111 ∷ []

-- Denied, for lack of Read
abbrev denied : List ℕ
denied = 0 ∷ 0 ∷ 0 ∷ 3 ∷ 8 ∷ 1 ∷ 1 ∷ []

abbrev no_names : List ℕ
no_names = 0 ∷ 0 ∷ 0 ∷ 3 ∷ 6 ∷ 0 ∷ 0 ∷ []

abbrev malformed : List ℕ
malformed = 0 ∷ 0 ∷ 0 ∷ 2 ∷ 17 ∷ 1 ∷ []

abbrev bad_login : List ℕ
bad_login = 0 ∷ 0 ∷ 0 ∷ 2 ∷ 17 ∷ 2 ∷ []

-- ---- one connection

abbrev one_login : Logins
one_login = (7, secret 15) ∷ []

pub a_first_stream : sent_to 1 one_login (Arrive 1 5 (hello 7 15) ∷ Arrive 1 6 create ∷ Arrive 1 7 write ∷ Arrive 1 8 read ∷ []) ≡ welcome ++ made 7 ++ done ++ data_hello
unfolding number_at block_at
a_first_stream = refl

pub a_wrong_secret : sent_to 1 one_login (Arrive 1 5 (hello 7 14) ∷ []) ≡ bad_login
unfolding number_at block_at
a_wrong_secret = refl

pub a_first_body_without_hello : sent_to 1 one_login (Arrive 1 5 create ∷ Arrive 1 6 (hello 7 15) ∷ []) ≡ malformed
unfolding number_at block_at
a_first_body_without_hello = refl

pub nothing_after_a_fault : sent_to 1 one_login (Arrive 1 5 (hello 7 15) ∷ Arrive 1 6 (read_with 1) ∷ Arrive 1 7 read ∷ Arrive 1 8 (hello 7 15) ∷ []) ≡ welcome ++ malformed
unfolding number_at block_at
nothing_after_a_fault = refl

-- ---- two connections

abbrev two_logins : Logins
two_logins = (7, secret 15) ∷ (9, secret 16) ∷ []

-- 9 speaks on the connection 2 between what 7 says on the connection 1
abbrev with_a_stranger : List HallStep
with_a_stranger = Arrive 1 5 (hello 7 15) ∷ Arrive 2 5 (hello 9 16) ∷ Arrive 1 6 create ∷ Arrive 2 6 create ∷ Arrive 1 7 write ∷ Arrive 2 7 read ∷ Arrive 2 7 list ∷ Arrive 1 8 read ∷ []

pub beside_a_stranger : sent_to 1 two_logins with_a_stranger ≡ welcome ++ made 7 ++ done ++ data_hello
unfolding number_at block_at
beside_a_stranger = refl

pub to_the_stranger : sent_to 2 two_logins with_a_stranger ≡ welcome ++ made 9 ++ denied ++ no_names
unfolding number_at block_at
to_the_stranger = refl

pub without_the_stranger : sent_without_strangers (opened 100) 7 1 two_logins with_a_stranger ≡ welcome ++ made 7 ++ done ++ data_hello
unfolding number_at block_at
without_the_stranger = refl
