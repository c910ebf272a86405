pub mod SomeTextLemmas
