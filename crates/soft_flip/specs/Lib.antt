pub mod OneSize
