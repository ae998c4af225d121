-- The demands leave nothing open: a call of which they hold is one that the contract describes, so that no wrong reader or writer meets them.
use Rattle.std.specs.Prelude.{ℕ, ◌≡◌, List, true}
use Rattle.format.specs.Bytes.{byte, all}
use Rattle.format.specs.Mesh.{Tables}
use Rattle.format.specs.Answer.{Answer, Reads}
use Rattle.format.specs.Written.{Written, Writes}
use Rattle.demands.specs.Demand1.{ReadAnswers, WriteAnswers}
use Rattle.demands.specs.Demand2.{ReadsMesh, WritesMesh}
use Rattle.demands.specs.Demand3.{SaysNoRoom}

-- what the three demands say of one reading, and the first two of one writing
pub record ReadDemands (file : List ℕ) (t : Tables) (a : Answer) (t' : Tables) : Type 1 where
  pub answers : ReadAnswers file t a t'
  pub mesh : ReadsMesh file t a t'
  pub no_room : SaysNoRoom file t a

pub record WriteDemands (t : Tables) (out : List ℕ) (a : Written) (out' : List ℕ) : Type 0 where
  pub answers : WriteAnswers t out a out'
  pub mesh : WritesMesh t out a out'

pub record Complete : Type 1 where
  pub reading : {file : List ℕ} {t t' : Tables} {a : Answer} → all byte file ≡ true → ReadDemands file t a t' → Reads file t a t'
  pub writing : {t : Tables} {out out' : List ℕ} {a : Written} → WriteDemands t out a out' → Writes t out a out'
