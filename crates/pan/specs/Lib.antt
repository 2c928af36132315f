pub mod Pan
