mod CountLaws
mod EndLaws
mod ExtentLaws
mod SameLaws
