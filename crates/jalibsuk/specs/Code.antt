-- How what a user sees of an environment is coded, so that a clause may tell two of them apart.
use Rattle.std.specs.Prelude.{ℕ, List, [], Option, refl}
use Rattle.std.specs.Coded.{Coded, code_by, coded×, coded_list, coded_option, coded_ℕ}
use Rattle.std.specs.Borrow.{u8}
use denote.RattleType.{RattleType}
use denote.Exit.{unseen}
use base.Fml.{ftrue}
use Rattle.environment.specs.declared.environment.Environment.{Environment}
use Rattle.environment.specs.contracts.environment.Environment.{the_row}
use Rattle.jalibsuk.specs.Seen.{Seen}

-- a type of which nothing is known but its code
abbrev as_type : (D : Type 0) → Coded D → RattleType
as_type D code = record {
  Denot = D;
  mir = [];
  written = u8.written;
  reaches = [];
  lives = u8.lives;
  own_val = λ x vs. ftrue;
  exit = λ k. unseen;
  coded = code;
  shr_at = λ x b o k. ftrue;
}

-- the code of an environment over disks of that code
abbrev environment_code : (D : Type 0) → Coded D → Coded (Environment D)
environment_code D code = (the_row (as_type D code)).coded

-- what a user sees is coded as the pair of its fields
abbrev pub seen_code : (D : Type 0) → Coded D → Coded (Seen D)
seen_code D code =
    code_by (Environment D × List (Option (List ℕ))) (coded× (environment_code D code) (coded_list (coded_option (coded_list coded_ℕ))))
    (λ s. (s.environment, s.names)) (λ p. record { environment = p.0; names = p.1 }) (λ _. refl)
