-- The rules on one key (document 01, "Down one level: order of the rules").
use Rattle.std.specs.Prelude.{ℕ, List, ◌++◌}
use Rattle.findings.specs.Findings.{Finding}
use Rattle.book.specs.Book.{Bkey, Book}
use Rattle.fields.specs.CheckKeyDevice.{check_key_device}
use Rattle.fields.specs.CheckKeyFields.{check_key_fields}
use Rattle.types.specs.CheckKeyType.{check_key_type}
use Rattle.states.specs.CheckStateWords.{check_state_words}

-- "Each key in turn: `check_key_device`, `check_key_fields`, `check_state_words`"; document 02, ticket 4: "The rule goes
-- after the device rule". The key of this index, by the book's device and version
unfoldable pub key_rules : ℕ → ℕ → ℕ → Bkey → List Finding
key_rules device version i k =
    check_key_device device i k ++ (check_key_type i k ++ (check_key_fields i k ++ check_state_words version i k))

-- of a book
unfoldable pub key_findings : Book → ℕ → Bkey → List Finding
key_findings b i k = key_rules b.header.device b.header.version i k
